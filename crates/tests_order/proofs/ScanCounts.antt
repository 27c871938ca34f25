-- How many tests a scan has.
use Rattle.std.proofs.Common.{◌≡◌, ℕ, zero, suc, ◌+◌, ◌-◌, ◌*◌, Some, None, [], ◌∷◌, map, length, refl, arith, length-append}
use Rattle.std.specs.List.{range_with_len, flat_map}
use Rattle.std.proofs.lemmas.List.FromFn.{length-map-range_with_len}
use Rattle.bitvec_verify.specs.Scan.{selector, repetition, masked, index_tests, start_tests, pair_tests, absent_tests}

-- two tests for each of n numbers
two_each : (a n : ℕ) → length (flat_map (λ i. selector i ∷ repetition i ∷ []) (range_with_len a n)) ≡ 2 * n
two_each a zero = refl
two_each a (suc n) = omega (arith, two_each (a + 1) n)

-- two for each index
pub index_count : (width : ℕ) → length (index_tests width) ≡ 2 * width
unfolding index_tests
index_count width = omega (arith, two_each 0 (width - 0))

-- one for each end from the start on
start_count : (width from : ℕ) → length (start_tests width from) ≡ width + 1 - from
unfolding start_tests
start_count width from = length-map-range_with_len (λ upto. masked (Some from) (Some upto)) from (width + 1 - from)

-- those of the last n starts
starts_count : (width a n : ℕ) → a + n ≡ width → 2 * length (flat_map (start_tests width) (range_with_len a n)) ≡ n * (n + 3)
starts_count width a zero e = refl
starts_count width a (suc n) e =
    omega (arith, start_count width a, length-append (start_tests width a) (flat_map (start_tests width) (range_with_len (a + 1) n)), starts_count width (a + 1) n (omega arith))

-- those of all starts
pub pair_count : (width : ℕ) → 2 * length (pair_tests width) ≡ width * (width + 3)
unfolding pair_tests
pair_count width = let e : width - 0 ≡ width = omega arith in rw e (starts_count width 0 width (omega arith))

-- one for no bound, one for each start, one for each end
pub absent_count : (width : ℕ) → length (absent_tests width) ≡ 2 * width + 2
unfolding absent_tests
absent_count width =
    omega (
      arith,
      length-append (map (λ from. masked (Some from) None) (range_with_len 0 (width - 0))) (map (λ upto. masked None (Some upto)) (range_with_len 0 (width + 1 - 0))),
      length-map-range_with_len (λ from. masked (Some from) None) 0 (width - 0),
      length-map-range_with_len (λ upto. masked None (Some upto)) 0 (width + 1 - 0),
    )
