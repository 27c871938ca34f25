-- Bit commands know nothing of a register, an order or a place.
use Rattle.std.proofs.Common.{◌≡◌, ℕ, zero, suc, Bool, true, false, cond, eqb, List, [], ◌∷◌, ap, refl, subst, Some}
use Rattle.std.specs.Prelude.{slice_get}
use Rattle.std.specs.List.{AllByRecursion, AllZip}
use Rattle.std.proofs.lemmas.Option.{none-some, same_Some}
use Rattle.bitvec.specs.declared.run.command.Command.{Command}
use Rattle.bitvec.specs.declared.run.command.Command.TheVariants.{Load, Store, Set, Clear, Invert, Read, Replace, Swap, Copy, Fill}
use Rattle.bitvec.specs.declared.run.command.Request.{Request}
use Rattle.bitvec.specs.declared.run.command.Reply.{Reply}
use Rattle.bitvec.specs.declared.run.command.Reply.TheVariants.{Word, Bit, Done, PastEnd, NoSpan}
use Rattle.bitvec.specs.Commands.{outcome, list_in, alone, own_commands}
use Rattle.bitvec.specs.Laws.{AreSameCommands, AreSameRequests, AreSameReplies, IsSameNumber, IsBitCommand}

-- lists that are related one by one, at one place of both
pub zip_at : {A B : Type 0} (R : A → B → Type 0) (xs : List A) (ys : List B) (s : ℕ) (x : A) (y : B) → AllZip R xs ys → slice_get xs s ≡ Some x → slice_get ys s ≡ Some y → R x y
zip_at R [] ys s x y h is it = absurd (none-some x is)
zip_at R (a ∷ xs) [] s x y h is it = absurd h
zip_at R (a ∷ xs) (b ∷ ys) zero x y h is it = subst (λ u. R u y) (same_Some a x is) (subst (λ v. R a v) (same_Some b y it) h.0)
zip_at R (a ∷ xs) (b ∷ ys) (suc s) x y h is it = zip_at R xs ys s x y h.1 is it

module _ {V W : Type 0} (number : V → ℕ) (other_number : W → ℕ) (same : ℕ → ℕ → Type 0) where
  -- of two lists of requests that are the same one by one, each span's own commands are so too
  same_if : (b : Bool) (c : Command V) (d : Command W) (cs : List (Command V)) (ds : List (Command W)) → AreSameCommands number other_number same c d
      → AllZip (AreSameCommands number other_number same) cs ds → AllZip (AreSameCommands number other_number same) (cond b (c ∷ cs) cs) (cond b (d ∷ ds) ds)
  same_if true c d cs ds h k = (h, k)
  same_if false c d cs ds h k = k

  pub own_same : (s : ℕ) (qs : List (Request V)) (ps : List (Request W)) → AllZip (AreSameRequests number other_number same) qs ps
      → AllZip (AreSameCommands number other_number same) (own_commands s qs) (own_commands s ps)
  own_same s [] [] h = tt
  own_same s [] (p ∷ ps) h = absurd h
  own_same s (q ∷ qs) [] h = absurd h
  own_same s (q ∷ qs) (p ∷ ps) h =
      subst (λ n. AllZip (AreSameCommands number other_number same) (cond (eqb q.span s) (q.command ∷ own_commands s qs) (own_commands s qs)) (cond (eqb n s) (p.command ∷ own_commands s ps) (own_commands s ps))) h.0.0
      (same_if (eqb q.span s) q.command p.command (own_commands s qs) (own_commands s ps) h.0.1 (own_same s qs ps h.1))

-- the own commands of requests of bit commands are bit commands
bit_if : {W : Type 0} (b : Bool) (c : Command W) (cs : List (Command W)) → IsBitCommand c → AllByRecursion IsBitCommand cs → AllByRecursion IsBitCommand (cond b (c ∷ cs) cs)
bit_if true c cs h k = (h, k)
bit_if false c cs h k = k

pub own_bit_commands : {W : Type 0} (s : ℕ) (qs : List (Request W)) → AllByRecursion (λ q. IsBitCommand q.command) qs → AllByRecursion IsBitCommand (own_commands s qs)
own_bit_commands s [] h = h
own_bit_commands s (q ∷ qs) h = bit_if (eqb q.span s) q.command (own_commands s qs) h.0 (own_bit_commands s qs h.1)

-- a reply is the same as itself
same_reply : (r : Reply ℕ) → AreSameReplies IsSameNumber r r
same_reply (Word w) = refl
same_reply (Bit b) = refl
same_reply Done = tt
same_reply PastEnd = tt
same_reply NoSpan = tt

pub same_replies : (rs : List (Reply ℕ)) → AllZip (AreSameReplies IsSameNumber) rs rs
same_replies [] = tt
same_replies (r ∷ rs) = (same_reply r, same_replies rs)

module _ {V W : Type 0} (number : V → ℕ) (other_number : W → ℕ) (bits other_bits : ℕ) (at other_at : ℕ → ℕ) (head other_head : ℕ) where
  one_outcome : (c : Command V) (d : Command W) (xs : List Bool) → IsBitCommand c → AreSameCommands number other_number IsSameNumber c d
      → outcome number bits at head c xs ≡ outcome other_number other_bits other_at other_head d xs
  one_outcome (Read i) (Read j) xs bit h = ap (λ n. outcome number bits at head (Read n) xs) h
  one_outcome (Replace i a) (Replace j b) xs bit h = let e = h.0 in let f = h.1 in rw (e, f) refl
  one_outcome (Swap i k) (Swap j l) xs bit h = let e = h.0 in let f = h.1 in rw (e, f) refl
  one_outcome (Copy from to count) (Copy other_from other_to other_count) xs bit h = let e = h.0 in let f = h.1 in let k = h.2 in rw (e, f, k) refl
  one_outcome (Fill from to value) (Fill other_from other_to other_value) xs bit h = let e = h.0 in let f = h.1 in let k = h.2 in rw (e, f, k) refl
  one_outcome (Load k) d xs bit h = absurd bit
  one_outcome (Store k v) d xs bit h = absurd bit
  one_outcome (Set k) d xs bit h = absurd bit
  one_outcome (Clear k) d xs bit h = absurd bit
  one_outcome (Invert k) d xs bit h = absurd bit
  one_outcome _ _ xs bit h = absurd h

  -- the same bit commands give the same, and leave the same
  pub bit_alone : (cs : List (Command V)) (ds : List (Command W)) (xs : List Bool) → AllByRecursion IsBitCommand cs → AllZip (AreSameCommands number other_number IsSameNumber) cs ds
      → alone number bits at head cs xs ≡ alone other_number other_bits other_at other_head ds xs
  bit_alone [] [] xs bit h = refl
  bit_alone [] (d ∷ ds) xs bit h = absurd h
  bit_alone (c ∷ cs) [] xs bit h = absurd h
  bit_alone (c ∷ cs) (d ∷ ds) xs bit h =
      let first = one_outcome c d xs bit.0 h.0 in
      let rest = bit_alone cs ds (list_in xs (outcome other_number other_bits other_at other_head d xs)) bit.1 h.1 in
      rw (first, rest) refl
