-- A run that goes on by another.
use Rattle.std.proofs.Common.{◌≡◌, ℕ, zero, suc, ◌+◌, Bool, true, false, cond, eqb, List, [], ◌∷◌, ◌++◌, length, length-append, take, ◌∙◌, ap, sym, refl, Some, None, arith}
use Rattle.std.specs.Prelude.{slice_get, Option}
use Rattle.std.proofs.lemmas.Option.{none-some}
use Rattle.bitvec_span.specs.Span.{Span, list_of}
use Rattle.bitvec.specs.declared.run.command.Command.{Command}
use Rattle.bitvec.specs.declared.run.command.Request.{Request}
use Rattle.bitvec.specs.declared.run.command.Reply.{Reply}
use Rattle.bitvec.specs.Commands.{outcome, reply_in, list_in, alone, own_commands}
use Rattle.bitvec.specs.Run.{IsRun, alone_from, reply_behind}

-- the list that commands and more after them leave
pub alone-append : {W : Type 0} (number : W → ℕ) (bits : ℕ) (at : ℕ → ℕ) (head : ℕ) (cs ds : List (Command W)) (xs : List Bool)
    → (alone number bits at head (cs ++ ds) xs).1 ≡ (alone number bits at head ds (alone number bits at head cs xs).1).1
alone-append number bits at head [] ds xs = refl
alone-append number bits at head (c ∷ cs) ds xs = alone-append number bits at head cs ds (list_in xs (outcome number bits at head c xs))

cond_cons : {A : Type 0} (b : Bool) (x : A) (xs ys : List A) → cond b (x ∷ (xs ++ ys)) (xs ++ ys) ≡ cond b (x ∷ xs) xs ++ ys
cond_cons true x xs ys = refl
cond_cons false x xs ys = refl

-- the commands of one span among requests and more after them
pub own_commands-append : {W : Type 0} (s : ℕ) (qs ps : List (Request W)) → own_commands s (qs ++ ps) ≡ own_commands s qs ++ own_commands s ps
own_commands-append s [] ps = refl
own_commands-append s (q ∷ qs) ps =
    ap (λ cs. cond (eqb q.span s) (q.command ∷ cs) cs) (own_commands-append s qs ps) ∙ cond_cons (eqb q.span s) q.command (own_commands s qs) (own_commands s ps)

-- the list that they leave of a span
pub alone_from-append : {W : Type 0} (number : W → ℕ) (bits : ℕ) (at : ℕ → ℕ) (span : Span) (old mid : List ℕ) (s : ℕ) (qs ps : List (Request W))
    → list_of bits at span mid ≡ (alone_from number bits at span old s qs).1
    → (alone_from number bits at span mid s ps).1 ≡ (alone_from number bits at span old s (qs ++ ps)).1
alone_from-append number bits at span old mid s qs ps left =
    ap (λ xs. (alone number bits at span.head (own_commands s ps) xs).1) left
    ∙ sym (alone-append number bits at span.head (own_commands s qs) (own_commands s ps) (list_of bits at span old))
    ∙ sym (ap (λ cs. (alone number bits at span.head cs (list_of bits at span old)).1) (own_commands-append s qs ps))

-- a number in two lists, the one behind the other, beside two others as long: it is one in the first of them, or one in
-- the second
pub data Place {A B : Type 0} (qs ps : List A) (rs ts : List B) (n : ℕ) (q : A) : Type 0 where
  in_first : slice_get qs n ≡ Some q → take n (qs ++ ps) ≡ take n qs → slice_get (rs ++ ts) n ≡ slice_get rs n → Place qs ps rs ts n q
  in_second : (m : ℕ) → slice_get ps m ≡ Some q → take n (qs ++ ps) ≡ qs ++ take m ps → slice_get (rs ++ ts) n ≡ slice_get ts m → Place qs ps rs ts n q

next : {A B : Type 0} (p : A) (r : B) (qs ps : List A) (rs ts : List B) (n : ℕ) (q : A) → Place qs ps rs ts n q → Place (p ∷ qs) ps (r ∷ rs) ts (suc n) q
next p r qs ps rs ts n q (in_first is before reply) = in_first is (ap (λ xs. p ∷ xs) before) reply
next p r qs ps rs ts n q (in_second m is before reply) = in_second m is (ap (λ xs. p ∷ xs) before) reply

find : {A B : Type 0} (qs ps : List A) (rs ts : List B) (n : ℕ) (q : A) → length rs ≡ length qs → slice_get (qs ++ ps) n ≡ Some q → Place qs ps rs ts n q
find [] ps [] ts n q long is = in_second n is refl refl
find [] ps (r ∷ rs) ts n q long is = absurd (omega (arith, long))
find (p ∷ qs) ps [] ts n q long is = absurd (omega (arith, long))
find (p ∷ qs) ps (r ∷ rs) ts zero q long is = in_first is refl refl
find (p ∷ qs) ps (r ∷ rs) ts (suc n) q long is = next p r qs ps rs ts n q (find qs ps rs ts n q (omega (arith, long)) is)

-- with no request nothing changes
pub run-none : {S W : Type 0} (number : W → ℕ) (bits : ℕ) (at : ℕ → ℕ) (view : S → Span) (spans : List S) (words : List ℕ) → IsRun number bits at view spans words [] [] words
run-none number bits at view spans words = record {
  as_many = refl;
  each = λ n request is. absurd (none-some request is);
  placed = record { lists = λ s span is. refl; others = λ place out. refl; apart = λ word head len from beside. refl; as_many_words = refl };
}

-- a reply behind some requests and more after them, from the memory between and from the first
reply_behind-at : {S W : Type 0} (number : W → ℕ) (bits : ℕ) (at : ℕ → ℕ) (view : S → Span)
    (old mid : List ℕ) (qs ps : List (Request W)) (q : Request W) (o : Option S)
    → ((span : S) → o ≡ Some span
    → list_of bits at (view span) mid ≡ (alone_from number bits at (view span) old q.span qs).1)
    → reply_behind number bits at view mid ps q o
    ≡ reply_behind number bits at view old (qs ++ ps) q o
reply_behind-at number bits at view old mid qs ps q None lists = refl
reply_behind-at number bits at view old mid qs ps q (Some span) lists =
    ap (λ xs. reply_in (outcome number bits at (view span).head q.command xs))
    (alone_from-append number bits at (view span) old mid q.span qs ps (lists span refl))

pub reply_behind-append : {S W : Type 0} (number : W → ℕ) (bits : ℕ) (at : ℕ → ℕ) (view : S → Span) (spans : List S) (old mid : List ℕ) (qs ps : List (Request W))
    → ((s : ℕ) (span : S) → slice_get spans s ≡ Some span → list_of bits at (view span) mid ≡ (alone_from number bits at (view span) old s qs).1)
    → (q : Request W) → reply_behind number bits at view mid ps q (slice_get spans q.span) ≡ reply_behind number bits at view old (qs ++ ps) q (slice_get spans q.span)
reply_behind-append number bits at view spans old mid qs ps lists q =
    reply_behind-at number bits at view old mid qs ps q (slice_get spans q.span)
    (λ span. lists q.span span)

module _ {S W : Type 0} (number : W → ℕ) (bits : ℕ) (at : ℕ → ℕ) (view : S → Span) (spans : List S) (old mid new : List ℕ) (qs ps : List (Request W)) (rs ts : List (Reply ℕ))
    (h : IsRun number bits at view spans old qs rs mid) (k : IsRun number bits at view spans mid ps ts new) where
  each_at : (n : ℕ) (q : Request W) → Place qs ps rs ts n q → slice_get (rs ++ ts) n ≡ Some (reply_behind number bits at view old (take n (qs ++ ps)) q (slice_get spans q.span))
  each_at n q (in_first is before reply) = rw (before, reply) (h.each n q is)
  each_at n q (in_second m is before reply) = rw (before, reply) (k.each m q is ∙ ap (λ r. Some r) (reply_behind-append number bits at view spans old mid qs (take m ps) h.placed.lists q))

  -- one run and another make a longer one
  pub run-more : IsRun number bits at view spans old (qs ++ ps) (rs ++ ts) new
  run-more = record {
    as_many = length-append rs ts ∙ (λ i. h.as_many i + k.as_many i) ∙ sym (length-append qs ps);
    each = λ n q is. each_at n q (find qs ps rs ts n q h.as_many is);
    placed = record {
      lists = λ s span is. k.placed.lists s span is ∙ alone_from-append number bits at (view span) old mid s qs ps (h.placed.lists s span is);
      others = λ place out. k.placed.others place out ∙ h.placed.others place out;
      apart = λ word head len from beside. k.placed.apart word head len from beside ∙ h.placed.apart word head len from beside;
      as_many_words = k.placed.as_many_words ∙ h.placed.as_many_words;
    };
  }
