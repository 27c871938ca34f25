use Rattle.std.proofs.Common.{◌≡◌, ◌<◌, ◌^◌, ◌≤◌, map, ap, ◌∙◌, inr, true, false, lit<, rules}
use Rattle.std.specs.Prelude.{codes}
use Rattle.std.proofs.lemmas.Iterator.Consumers.{YieldsList-turn, YieldsList-end, YieldsList-at}
use Rattle.std.proofs.lemmas.Iterator.Splits.{YieldsList-from_str_split}
use Rattle.bits_text.proofs.WordLemmas.{no_number, no_memory, too_large, fits, first_of, words_more}
use Rattle.bits_text.proofs.FrontLemmas.{on_err}
use Rattle.bits_text.specs.Words.{IsWordText, pieces}
use Rattle.bits_text.proofs.words.words_of.Goals as goal

pub returns-in_default-clause-ok : goal.returns-in_default-clause-ok
returns-in_default-clause-ok g c =
    let s = c.split-word-items.ensures in
    let road = YieldsList-at c.into_iter-word-iterator.ensures.into_iter_gives (YieldsList-from_str_split {s = c.split-word-items.result} 44 c.args.text.now (lit< tt) s.text s.has_more s.pattern) in
    let place = YieldsList-turn road c.loop-word.yielded _ c.loop-word.yielded_by _ _ c.in-Some.word c.in-Some.is c.next.ensures.steps in
    let wrong = no_number g.R.BitRegister.BITS c.in-Some.word.now g.met.R.BitRegister.width_at_most_128 c.in_default.ensures in
    let some : c.args.text.now ≡ codes "-" → ⊥ = search rules in
    no_memory g.R.BitRegister.BITS c.args.text.now c.in-Some.word.now _ some place wrong

pub returns-in_default-from_u128-clause-ok : goal.returns-in_default-from_u128-clause-ok
returns-in_default-from_u128-clause-ok g c =
    let s = c.split-word-items.ensures in
    let road = YieldsList-at c.into_iter-word-iterator.ensures.into_iter_gives (YieldsList-from_str_split {s = c.split-word-items.result} 44 c.args.text.now (lit< tt) s.text s.has_more s.pattern) in
    let place = YieldsList-turn road c.loop-word.yielded _ c.loop-word.yielded_by _ _ c.in-Some.word c.in-Some.is c.next.ensures.steps in
    let large : 2 ^ g.R.BitRegister.BITS ≤ c.in-Some-number.n = search rules in
    let wrong = too_large g.R.BitRegister.BITS c.in-Some.word.now c.in-Some-number.n c.in-Some-number.ensures.1 large in
    let some : c.args.text.now ≡ codes "-" → ⊥ = search rules in
    no_memory g.R.BitRegister.BITS c.args.text.now c.in-Some.word.now _ some place wrong

pub loop-word-preserved : goal.loop-word-preserved
loop-word-preserved g c =
    let i = c.loop-word.invariant in
    let n = c.in-Some-number.ensures in
    let small : c.in-Some-number.n < 2 ^ g.R.BitRegister.BITS =
    fits c.in-Some-number.n g.R.BitRegister.BITS (λ l. let none : true ≡ false = c.in-Some-from_u128.ensures.refused.1 l in cc) in
    let more = words_more g.R.BitRegister.BITS g.R.BitRegister.number (λ x. x.now)
    c.loop-word.yielded c.in-Some.word c.loop-word.words.items c.in-Some-from_u128.word
    (record { read = i.read; same = i.same }) (n.0.0, rw n.1 at small)
    (rw n.1 at c.in-Some-from_u128.ensures.made) in
    let s = c.split-word-items.ensures in
    let road = YieldsList-at c.into_iter-word-iterator.ensures.into_iter_gives (YieldsList-from_str_split {s = c.split-word-items.result} 44 c.args.text.now (lit< tt) s.text s.has_more s.pattern) in
    let place = YieldsList-turn road c.loop-word.yielded _ c.loop-word.yielded_by _ _ c.in-Some.word c.in-Some.is c.next.ensures.steps in
    record {
      read = more.read;
      begun = λ _. first_of (IsWordText g.R.BitRegister.BITS) (pieces c.args.text.now) c.in-Some.word.now _ place (n.0.0, rw n.1 at small) i.begun;
      same = ap (map g.R.BitRegister.number) c.in_ok-push.ensures.items ∙ more.same;
    }

pub returns-clause-ok : goal.returns-clause-ok
returns-clause-ok g c =
    let s = c.split-word-items.ensures in
    let road = YieldsList-at c.into_iter-word-iterator.ensures.into_iter_gives (YieldsList-from_str_split {s = c.split-word-items.result} 44 c.args.text.now (lit< tt) s.text s.has_more s.pattern) in
    let all = YieldsList-end road c.loop-word.yielded _ c.loop-word.yielded_by _ _ c.in-None.is c.next.ensures.steps in
    inr (rw all.0 at c.loop-word.invariant.read, rw all.0 at c.loop-word.invariant.same)

pub returns-in_err-push-clause-err : goal.returns-in_err-push-clause-err
returns-in_err-push-clause-err g c =
    let i = c.loop-word.invariant in
    let n = c.in-Some-number.ensures in
    let small : c.in-Some-number.n < 2 ^ g.R.BitRegister.BITS =
    fits c.in-Some-number.n g.R.BitRegister.BITS (λ l. let none : true ≡ false = c.in-Some-from_u128.ensures.refused.1 l in cc) in
    let s = c.split-word-items.ensures in
    let road = YieldsList-at c.into_iter-word-iterator.ensures.into_iter_gives (YieldsList-from_str_split {s = c.split-word-items.result} 44 c.args.text.now (lit< tt) s.text s.has_more s.pattern) in
    let place = YieldsList-turn road c.loop-word.yielded _ c.loop-word.yielded_by _ _ c.in-Some.word c.in-Some.is c.next.ensures.steps in
    on_err c.from_residual.result (first_of (IsWordText g.R.BitRegister.BITS) (pieces c.args.text.now) c.in-Some.word.now _ place (n.0.0, rw n.1 at small) i.begun)
