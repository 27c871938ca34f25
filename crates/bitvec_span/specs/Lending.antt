-- What a slice ends as, where parts of it are lent at once and the others are left as they were.
use Rattle.std.specs.Prelude.{ℕ, List, ◌++◌, take, drop, Option, Some, None}
use Rattle.std.specs.Borrow.{Fml, GName, RattleType, MutBor, Array, follows_both, fsep}
use base.Fml.{feq, fall, fex, fwand, ftrue}
use denote.Slice.{finally}

-- the name of a loan, where there is one
abbrev pub name_of : {X : Type 0} → Option (MutBor X) → Option GName
name_of (Some r) = Some r.ghost_name
name_of None = None

module _ (R : RattleType) where
  -- s ends as the last words behind a, b and c, one behind the other: for some name d, s ends as the last words behind a
  -- before those of d, and d as those behind b before those behind c
  abbrev pub LendsThree : MutBor (List R.Denot) → MutBor (List R.Denot) → MutBor (List R.Denot) → MutBor (List R.Denot) → Fml
  LendsThree s a b c =
      let A = Array R 0 in
      fex GName (λ d. fsep (follows_both A A A s.ghost_name a.ghost_name d ◌++◌) (follows_both A A A d b.ghost_name c.ghost_name ◌++◌))

  -- r is s itself, or s was let go and ends as it is
  abbrev pub KeptIf : MutBor (List R.Denot) → Option (MutBor (List R.Denot)) → Fml
  KeptIf s (Some r) = feq GName r.ghost_name s.ghost_name
  KeptIf s None = finally R s.ghost_name s.now

  -- w is the last list behind the loan of that name; where nothing was lent it is v, the list that lay there
  abbrev pub EndsAs : Option GName → List R.Denot → List R.Denot → Fml
  EndsAs (Some γ) v w = finally R γ w
  EndsAs None v w = feq (List R.Denot) w v

  -- of s, cut before i and n further on, the parts with a name are lent: s ends as the three parts' last lists, one behind
  -- the other
  abbrev pub LendsNamed : MutBor (List R.Denot) → ℕ → ℕ → Option GName × Option GName × Option GName → Fml
  LendsNamed s i n names = fall (List R.Denot × List R.Denot × List R.Denot) (λ w. fwand
      (fsep (EndsAs names.0 (take i s.now) w.0) (fsep (EndsAs names.1 (take n (drop i s.now)) w.1) (EndsAs names.2 (drop n (drop i s.now)) w.2)))
      (finally R s.ghost_name (w.0 ++ (w.1 ++ w.2))))

  -- the loan of that name ends as the list v; nothing where there is none
  abbrev pub RestsAt : Option GName → Option (List R.Denot) → Fml
  RestsAt (Some γ) (Some v) = finally R γ v
  RestsAt (Some γ) None = ftrue
  RestsAt None v = ftrue

  -- each loan of these names ends as its list
  abbrev pub LoansRest : Option GName × Option GName × Option GName → Option (List R.Denot) × Option (List R.Denot) × Option (List R.Denot) → Fml
  LoansRest names words = fsep (RestsAt names.0 words.0) (fsep (RestsAt names.1 words.1) (RestsAt names.2 words.2))

  -- the same where an answer is `None`
  abbrev pub LoansRestIfNone : {A : Type 0} → Option GName × Option GName × Option GName → Option (List R.Denot) × Option (List R.Denot) × Option (List R.Denot) → Option A → Fml
  LoansRestIfNone names words None = LoansRest names words
  LoansRestIfNone names words (Some x) = ftrue
