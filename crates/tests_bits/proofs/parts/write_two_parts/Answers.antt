use Rattle.std.proofs.Common.{◌≡◌, rules, ℤ, ℕ, ◌-◌, Bool, true, List, ◌++◌, length, map, take, drop, replicate, sym, ap, subst, ◌∙◌, arith}
use Rattle.std.specs.Prelude.{All, slice_index_or}
use Rattle.std.proofs.lemmas.List.{append-nil, length-drop, nil_from_length}
use Rattle.bitvec.specs.Run.{IsOutside}
use Rattle.bitvec.specs.Span.{Span, AreDisjoint}
use Rattle.bitvec.proofs.PartLemmas.{length-list_of}
use Rattle.bits_lib.specs.Interval.{no_span}
use Rattle.bits_lib.specs.View.{view_memory, part_list, part_span}
use Rattle.tests_bits.proofs.parts.write_two_parts.Goals as goal

-- a list that is filled from end to end
all_filled : (n : ℕ) (xs ys : List Bool) (b : Bool) → ys ≡ take 0 xs ++ replicate (n - 0) b ++ drop n xs → length xs ≡ n → ys ≡ replicate n b
all_filled n xs ys b is long =
    let all : n - 0 ≡ n = omega arith in
    is ∙ ap (λ m. replicate m b ++ drop n xs) all ∙ ap (λ zs. replicate n b ++ zs) (nil_from_length (drop n xs) (omega (arith, long, length-drop n xs))) ∙ append-nil (replicate n b)

pub returns-clause-second : goal.returns-clause-second
returns-clause-second g c =
    let made = c.new_unchecked-parts.ensures.spans in
    let same = c.set.ensures.spans in
    let old = part_list c.set.new.self 1 in
    let long : length old ≡ c.len-len.result =
    length-list_of g.R.BitRegister.BITS g.O.BitAt.at_of (part_span c.set.new.self 1) (map g.R.BitRegister.number (view_memory c.set.new.self).now) ∙ sym c.len-len.ensures in
    let len : c.len-len.result ≡ c.args.b.len = c.len-len.ensures ∙ ap (λ (spans : List Span). (slice_index_or spans 1 no_span).len) (same ∙ made) in
    let filled : part_list c.fill.new.self 1 ≡ replicate c.args.b.len true = all_filled c.len-len.result old (part_list c.fill.new.self 1) true c.fill.ensures.edited long ∙ ap (λ n. replicate n true) len in
    search (rules, filled)

pub returns-clause-others : goal.returns-clause-others
returns-clause-others g c =
    let made = c.new_unchecked-parts.ensures.spans in
    let same = c.set.ensures.spans in
    λ place out.
    let first = c.set.ensures.others place (subst (λ (spans : List Span). IsOutside g.R.BitRegister.BITS (λ span. span) spans place) (sym made) out) in
    let second = c.fill.ensures.others place (subst (λ (spans : List Span). IsOutside g.R.BitRegister.BITS (λ span. span) spans place) (sym (same ∙ made)) out) in
    search (rules, first, second)

pub returns-clause-apart : goal.returns-clause-apart
returns-clause-apart g c =
    let width = g.R.BitRegister.BITS in
    let made = c.new_unchecked-parts.ensures.spans in
    let same = c.set.ensures.spans in
    λ word head len from apart.
    let other : Span = record { word = word; head = head; len = len } in
    let first = c.set.ensures.apart word head len from (subst (λ (spans : List Span). All (λ part. AreDisjoint width part other) spans) (sym made) apart) in
    let again = subst (λ (spans : List Span). All (λ part. AreDisjoint width part other) spans) (sym (same ∙ made)) apart in
    let second = c.fill.ensures.apart word head len from again in
    search (rules, first, second)
