-- Positions of an order that neither rises nor falls.
use Rattle.std.proofs.Common.{◌≡◌, ℕ, ◌+◌, ◌%◌, ◌<◌, arith}
use Rattle.bitvec_order.specs.Order.{IsOneToOne}

-- the position of index i of a byte: four further on, round its end, so that its halves are exchanged
abbrev pub exchanged_index : ℕ → ℕ
exchanged_index i = (i + 4) % 8

pub exchanged_one_to_one : IsOneToOne 8 exchanged_index
exchanged_one_to_one = record {
  below = λ i h. omega arith;
  apart = λ i j h k e. omega (arith, e);
}
