use Rattle.std.proofs.Common.{arith}
use Rattle.tests_order.proofs.ScanCounts.{index_count, pair_count, absent_count}
use Rattle.tests_order.proofs.order_laws.scan_counts.Goals as goal

pub returns : goal.returns
returns c = record {
  pairs_8 = omega (arith, pair_count 8);
  pairs_16 = omega (arith, pair_count 16);
  pairs_32 = omega (arith, pair_count 32);
  pairs_64 = omega (arith, pair_count 64);
  pairs_128 = omega (arith, pair_count 128);
  absent_128 = omega (arith, absent_count 128);
  pairs = pair_count;
  absent = absent_count;
  indices = index_count;
}
