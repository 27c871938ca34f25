-- What a search of a part of a list shows of that part.
use Rattle.std.proofs.Common.{◌≡◌, ℕ, ◌-◌, ◌<◌, min, Bool, true, false, true≢false, not, nat_le, List, length, Option, Some, None, MatchOption, is_some, refl, sym, ◌∙◌, inl, inr, arith}
use Rattle.std.specs.Prelude.{◌↔◌, IsTrue}
use Rattle.std.proofs.lemmas.Bool.{cases_lt, le-leb, leb-true}
use Rattle.std.proofs.lemmas.List.{get_or_past}
use Rattle.bitvec_slice.specs.Bits.{AllBetween, IsFirstBetween}

-- whether there is a first element that is `bit` shows whether all are the other
pub between_shows : (xs : List Bool) (bit : Bool) (from upto : ℕ) (o : Option ℕ) → MatchOption o (AllBetween (not bit) xs from upto) (IsFirstBetween bit xs from upto)
    → (is_some o ≡ false) ↔ AllBetween (not bit) xs from upto
between_shows xs bit from upto None all = ((λ e. all), (λ all. refl))
between_shows xs true from upto (Some i) first = ((λ e. absurd (true≢false e)), (λ all. absurd (true≢false (sym first.2 ∙ all i first.0 first.1))))
between_shows xs false from upto (Some i) first = ((λ e. absurd (true≢false e)), (λ all. absurd (true≢false (sym (all i first.0 first.1) ∙ first.2))))

-- whether there is none shows the same
pub none_between_shows : (xs : List Bool) (bit : Bool) (from upto : ℕ) (o : Option ℕ) (none : Bool) → is_some o ≡ not none → MatchOption o (AllBetween (not bit) xs from upto) (IsFirstBetween bit xs from upto)
    → IsTrue none ↔ AllBetween (not bit) xs from upto
none_between_shows xs bit from upto o true e first = ((λ yes. (between_shows xs bit from upto o first).0 e), (λ all. refl))
none_between_shows xs bit from upto o false e first = ((λ yes. absurd (true≢false (sym yes))), (λ all. sym ((between_shows xs bit from upto o first).1 all) ∙ e))

-- a range that passes the end has only true elements where it is empty
pub past_shows : (xs : List Bool) (from to : ℕ) → length xs < to → IsTrue (nat_le to from) ↔ AllBetween true xs from to
past_shows xs from to past = (
  (λ empty j h k. absurd (omega (arith, h, k, leb-true to from empty))),
  (λ all. elim (cases_lt from to) [
    | inl some ↦ absurd (true≢false (sym (all (to - 1) (omega (arith, some)) (omega (arith, some))) ∙ get_or_past xs (to - 1) false (omega (arith, past))))
    | inr none ↦ le-leb to from none
  ]),
)

-- no true element is past the end
pub up_to_end : (xs : List Bool) (from to end : ℕ) → end ≡ min to (length xs) → AllBetween false xs from end ↔ AllBetween false xs from to
up_to_end xs from to end e = (
  (λ all j h k. elim (cases_lt j (length xs)) [ inl inside ↦ all j h (omega (arith, e, k, inside)) | inr past ↦ get_or_past xs j false past ]),
  (λ all j h k. all j h (omega (arith, e, k))),
)
