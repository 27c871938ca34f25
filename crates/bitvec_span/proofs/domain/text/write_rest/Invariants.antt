use Rattle.std.proofs.Common.{◌≡◌, ℕ, List, ◌++◌}
use Rattle.std.specs.Fmt.{IsFlush, HasWrittenStyled}
use Rattle.bitvec_span.specs.Parts.{items}
use Rattle.bitvec_span.specs.Domain.{domain_parts}
use Rattle.bitvec_span.specs.ItemText.{rest_text}
use Rattle.bitvec_span.proofs.domain.text.write_rest.Given as goal

abbrev pub invariant-loop-word : goal.invariant-loop-word
invariant-loop-word g l =
    IsFlush l.initial.f → (bs : List ℕ) × (HasWrittenStyled g.W.Write.write_str_gives l.initial.f bs l.f
    × (bs ++ rest_text l.base l.upper (items g.R.BitRegister.BITS g.O.BitAt.at_of (domain_parts g.R.BitRegister.number l.word-iterator)) ≡ rest_text l.base l.upper (items g.R.BitRegister.BITS g.O.BitAt.at_of (domain_parts g.R.BitRegister.number l.initial.word-iterator))))
