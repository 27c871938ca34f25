-- The four spans of a header, and what a run through them leaves.
use Rattle.std.proofs.Common.{◌≡◌, ℕ, ◌+◌, ◌<◌, ◌≤◌, List, [], ◌∷◌, map, Some, arith, subst, ap, refl, sym, ◌∙◌}
use Rattle.std.specs.Prelude.{pos, slice_get, All, AllPairs}
use Rattle.std.proofs.lemmas.Int.{ints}
use Rattle.std.proofs.lemmas.List.{map-id}
use Rattle.std.proofs.lemmas.Option.{slice_get_within, get_or_from_slice_get}
use Rattle.std.proofs.lemmas.List.Elements.{All-nil, All-cons}
use Rattle.std.proofs.lemmas.List.Kept.{AllPairs-cons}
use Rattle.bitvec.specs.Digit.{digit}
use Rattle.bitvec.specs.Memory.{bit_of}
use Rattle.bitvec.specs.Span.{Span, Fits, Covers, AreDisjoint, list_of}
use Rattle.bitvec.specs.Commands.{alone, own_commands}
use Rattle.bitvec.specs.Run.{CanRun, IsOutside, IsRun}
use Rattle.bitvec.specs.declared.run.command.Command.{Command}
use Rattle.bitvec.specs.declared.run.command.Command.TheVariants.{Store}
use Rattle.bitvec.specs.declared.run.command.Request.{Request}
use Rattle.bitvec.specs.declared.run.command.Reply.{Reply}
use Rattle.example_packet.specs.declared.header.Header.{Header}
use Rattle.example_packet.specs.Field.{field_span, shifted_number}
use Rattle.example_packet.specs.Header.{HasHeader}
use Rattle.example_packet.proofs.HeaderFieldLemmas.{one_word, stored_list, stored}

-- a field that ends before another begins has no place in common with it
apart : (start len next count : ℕ) → start + len ≤ next → AreDisjoint 32 (field_span start len) (field_span next count)
apart start len next count h place p q = omega (arith, ints, h, p.1, q.0)

fits_from : (start len words : ℕ) → 1 ≤ len → start + len ≤ 32 → 1 ≤ words → Fits 32 (field_span start len) words
fits_from start len words some in_word room = let one = one_word start len some in_word in (omega (arith, ints), omega (arith, room, one))

-- the place of a later word lies in no field
behind_field : (start len place : ℕ) → start + len ≤ 32 → 32 ≤ place → ¬ Covers 32 (field_span start len) (pos place)
behind_field start len place in_word h covers = omega (arith, ints, in_word, h, covers.1)

module _ {S : Type 0} (view : S → Span) (a b c d : S)
    (is_version : view a ≡ field_span 0 4) (is_class : view b ≡ field_span 4 6) (is_flags : view c ≡ field_span 10 6) (is_length : view d ≡ field_span 16 16) where
  abbrev spans : List S
  spans = a ∷ b ∷ c ∷ d ∷ []

  -- what holds of each field, holds of each span
  each : (P : Span → Type 0) → P (field_span 0 4) → P (field_span 4 6) → P (field_span 10 6) → P (field_span 16 16) → All (λ span. P (view span)) spans
  each P version class flags length =
      let Q : S → Type 0 = λ span. P (view span) in
      All-cons Q a (b ∷ c ∷ d ∷ []) (subst P (sym is_version) version) (All-cons Q b (c ∷ d ∷ []) (subst P (sym is_class) class) (All-cons Q c (d ∷ []) (subst P (sym is_flags) flags) (All-cons Q d [] (subst P (sym is_length) length) (All-nil Q))))

  disjoint : (x y : S) (start len next count : ℕ) → view x ≡ field_span start len → view y ≡ field_span next count → start + len ≤ next → AreDisjoint 32 (view x) (view y)
  disjoint x y start len next count is_x is_y h =
      subst (λ s. AreDisjoint 32 s (view y)) (sym is_x) (subst (λ s. AreDisjoint 32 (field_span start len) s) (sym is_y) (apart start len next count h))

  -- no two of the spans have a bit in common
  pairs : AllPairs (λ x y. AreDisjoint 32 (view x) (view y)) spans
  pairs =
      let R : S → S → Type 0 = λ x y. AreDisjoint 32 (view x) (view y) in
      AllPairs-cons R a (b ∷ c ∷ d ∷ [])
      (All-cons (R a) b (c ∷ d ∷ []) (disjoint a b 0 4 4 6 is_version is_class (omega arith)) (All-cons (R a) c (d ∷ []) (disjoint a c 0 4 10 6 is_version is_flags (omega arith))
      (All-cons (R a) d [] (disjoint a d 0 4 16 16 is_version is_length (omega arith)) (All-nil (R a)))))
      (AllPairs-cons R b (c ∷ d ∷ [])
      (All-cons (R b) c (d ∷ []) (disjoint b c 4 6 10 6 is_class is_flags (omega arith)) (All-cons (R b) d [] (disjoint b d 4 6 16 16 is_class is_length (omega arith)) (All-nil (R b))))
      (AllPairs-cons R c (d ∷ [])
      (All-cons (R c) d [] (disjoint c d 10 6 16 16 is_flags is_length (omega arith)) (All-nil (R c)))
      (AllPairs-cons R d [] (All-nil (R d)) (λ i j e l h. absurd (omega (arith, h))))))

  -- so they can be run through exactly where the memory has a word
  pub can_run-from_room : (words : ℕ) → 1 ≤ words → CanRun 32 view spans words
  can_run-from_room words room = (
    each (λ span. Fits 32 span words) (fits_from 0 4 words (omega arith) (omega arith) room) (fits_from 4 6 words (omega arith) (omega arith) room)
        (fits_from 10 6 words (omega arith) (omega arith) room) (fits_from 16 16 words (omega arith) (omega arith) room),
    pairs,
  )

  pub room-from_can_run : (words : ℕ) → CanRun 32 view spans words → 1 ≤ words
  room-from_can_run words can =
      let fits : Fits 32 (field_span 0 4) words = subst (λ span. Fits 32 span words) is_version (can.0 0 a (omega arith)) in
      let one = one_word 0 4 (omega arith) (omega arith) in
      omega (arith, fits.1, one)

  -- every bit of a later word lies outside them
  pub behind : (place : ℕ) → 32 ≤ place → IsOutside 32 view spans place
  behind place h s span is =
      let out = each (λ span. ¬ Covers 32 span (pos place)) (behind_field 0 4 place (omega arith) h) (behind_field 4 6 place (omega arith) h) (behind_field 10 6 place (omega arith) h) (behind_field 16 16 place (omega arith) h) in
      subst (λ x. ¬ Covers 32 (view x) (pos place)) (get_or_from_slice_get spans s span span is) (out s span (slice_get_within spans s span is))

module _ {S : Type 0} (view : S → Span) (spans : List S) (at : ℕ → ℕ) (before after : List ℕ) (requests : List (Request ℕ)) (replies : List (Reply ℕ))
    (ran : IsRun (λ n. n) 32 at view spans (map (λ w. w) before) requests replies (map (λ w. w) after)) where
  -- a span that one store goes through has the value's digits
  pub stored-by_run : (s start len value : ℕ) (span : S) → slice_get spans s ≡ Some span → view span ≡ field_span start len → own_commands s requests ≡ Store 0 value ∷ [] → 1 ≤ len → start + len ≤ 32
      → (place : ℕ) → start ≤ place → place < start + len → bit_of 32 at after place ≡ digit value (at place)
  stored-by_run s start len value span is is_field own some in_word =
      let lists = subst (λ ws. list_of 32 at (view span) ws ≡ (alone (λ n. n) 32 at (view span).head (own_commands s requests) (list_of 32 at (view span) (map (λ w. w) before))).1) (map-id after) (ran.placed.lists s span is) in
      let same : list_of 32 at (field_span start len) after ≡ stored_list at start value (list_of 32 at (field_span start len) (map (λ w. w) before)) =
      subst (λ f. list_of 32 at f after ≡ (alone (λ n. n) 32 at f.head (Store 0 value ∷ []) (list_of 32 at f (map (λ w. w) before))).1) is_field
      (subst (λ commands. list_of 32 at (view span) after ≡ (alone (λ n. n) 32 at (view span).head commands (list_of 32 at (view span) (map (λ w. w) before))).1) own lists) in
      stored at start len value (map (λ w. w) before) after some in_word same

  -- and every bit outside all spans is as before
  pub kept-by_run : (place : ℕ) → IsOutside 32 view spans place → bit_of 32 at after place ≡ bit_of 32 at before place
  kept-by_run place out =
      sym (ap (λ ws. bit_of 32 at ws place) (map-id after)) ∙ ran.placed.others place out ∙ ap (λ ws. bit_of 32 at ws place) (map-id before)

-- a request stores a number in the field from an index on, through the span of number s
pub record StoresField (at : ℕ → ℕ) (start len number s : ℕ) (request : Request ℕ) : Type 0 where
  pub command : Command ℕ
  pub is_request : request ≡ record { span = s; command = command }
  pub is_store : command ≡ Store 0 (shifted_number at start len number)

-- four spans are the fields of a header, and four requests store its numbers, one through each
pub record StoresHeader {S : Type 0} (view : S → Span) (spans : List S) (at : ℕ → ℕ)
    (header : Header) (requests : List (Request ℕ)) : Type 0 where
  pub a : S
  pub b : S
  pub c : S
  pub d : S
  pub are_spans : spans ≡ a ∷ b ∷ c ∷ d ∷ []
  pub is_version : view a ≡ field_span 0 4
  pub is_class : view b ≡ field_span 4 6
  pub is_flags : view c ≡ field_span 10 6
  pub is_length : view d ≡ field_span 16 16
  pub r0 : Request ℕ
  pub r1 : Request ℕ
  pub r2 : Request ℕ
  pub r3 : Request ℕ
  pub are_requests : requests ≡ r0 ∷ r1 ∷ r2 ∷ r3 ∷ []
  pub version : StoresField at 0 4 header.version 0 r0
  pub class : StoresField at 4 6 header.class 1 r1
  pub flags : StoresField at 10 6 header.flags 2 r2
  pub length : StoresField at 16 16 header.length 3 r3

-- a run of these writes the header
pub header-written : {S : Type 0} (view : S → Span) (spans : List S) (at : ℕ → ℕ) (header : Header)
    (requests : List (Request ℕ)) → StoresHeader view spans at header requests
    → (before after : List ℕ) (replies : List (Reply ℕ))
    → IsRun (λ n. n) 32 at view spans (map (λ w. w) before) requests replies (map (λ w. w) after)
    → HasHeader at header after
header-written view spans at header requests all before after replies ran =
    let es = all.are_spans in
    let er = all.are_requests in
    let t0 = all.version.is_request in
    let t1 = all.class.is_request in
    let t2 = all.flags.is_request in
    let t3 = all.length.is_request in
    let s0 = all.version.is_store in
    let s1 = all.class.is_store in
    let s2 = all.flags.is_store in
    let s3 = all.length.is_store in
    record {
      version =
          stored-by_run view _ at before after _ replies ran 0 0 4 _ all.a (rw es refl)
          all.is_version (rw (er, t0, t1, t2, t3, s0) refl) (omega arith) (omega arith);
      class =
          stored-by_run view _ at before after _ replies ran 1 4 6 _ all.b (rw es refl)
          all.is_class (rw (er, t0, t1, t2, t3, s1) refl) (omega arith) (omega arith);
      flags =
          stored-by_run view _ at before after _ replies ran 2 10 6 _ all.c (rw es refl)
          all.is_flags (rw (er, t0, t1, t2, t3, s2) refl) (omega arith) (omega arith);
      length =
          stored-by_run view _ at before after _ replies ran 3 16 16 _ all.d (rw es refl)
          all.is_length (rw (er, t0, t1, t2, t3, s3) refl) (omega arith) (omega arith);
    }

pub header_same : (one other : Header) → one.version ≡ other.version → one.class ≡ other.class → one.flags ≡ other.flags → one.length ≡ other.length → one ≡ other
header_same one other version class flags length = λ k. record { version = version k; class = class k; flags = flags k; length = length k }
