use Rattle.std.proofs.Common.{◌≡◌, ◌≤◌, take}
use Rattle.std.specs.Str.Parse.{AllDigits, digits_value}
use Rattle.bits_text.proofs.number.number.Given as goal

abbrev pub invariant-loop-b : goal.invariant-loop-b
invariant-loop-b l = record {
  digits : AllDigits l.radix (take l.b-index l.text);
  value : l.n ≡ digits_value l.radix (take l.b-index l.text);
  small : l.n ≤ l.most;
}
