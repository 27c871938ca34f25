-- The block meets its trait: each of its methods meets what the trait asks (`Block`).
use Rattle.bitvec.proofs.Block.{block_meets}
use Rattle.bits_text.proofs.hilo.HiLoOrderCandidate.select.Met as met-select
use Rattle.bits_text.proofs.hilo.HiLoOrderCandidate.select.Symbol as symbol-select
use Rattle.bits_text.proofs.hilo.HiLoOrderCandidate.mask.Met as met-mask
use Rattle.bits_text.proofs.hilo.HiLoOrderCandidate.mask.Symbol as symbol-mask
use Rattle.bits_text.proofs.hilo.HiLoOrderCandidate.TheImpl.Statement
use Rattle.bits_text.specs.contracts.hilo.HiLoOrderCandidate.select as select
use Rattle.bits_text.specs.contracts.hilo.HiLoOrderCandidate.mask as mask
use contract.Running.{within}
use mathlib.Core.Path.{refl}

pub bound : Statement.statement
bound = λ γ w-select w-mask R laws copies b1 d1 b2 d2 b3 d3 b4 d4 b5 d5 b6 d6 b7 d7 b8 d8 b9 d9 M 𝓤 𝓛 𝓜 𝓡 m1 m2 m3 m4 m5 m6 m7 m8 m9.
    let inner = within 𝓤 𝓛.H 𝓜 𝓡 γ in
    record {
      select =
          let S = select.signature R b1 d1 b2 d2 b3 d3 b4 d4 b5 d5 b6 d6 b7 d7 b8 d8 b9 d9 in
          block_meets 𝓛 𝓜 𝓡 γ S.params S.result (select.spec R b1 d1 b2 d2 b3 d3 b4 d4 b5 d5 b6 d6 b7 d7 b8 d8 b9 d9 𝓛 𝓜.mem 𝓡.returns) _ _ _ (symbol-select.as_method γ w-select) refl
          (met-select.met 𝓤 𝓛 𝓜 inner w-select R laws copies b1 d1 b2 d2 b3 d3 b4 d4 b5 d5 b6 d6 b7 d7 b8 d8 b9 d9 m1 m2 m3 m4 m5 m6 m7 m8 m9);
      mask =
          let S = mask.signature R b1 d1 b2 d2 b3 d3 b4 d4 b5 d5 b6 d6 b7 d7 b8 d8 b9 d9 in
          block_meets 𝓛 𝓜 𝓡 γ S.params S.result (mask.spec R b1 d1 b2 d2 b3 d3 b4 d4 b5 d5 b6 d6 b7 d7 b8 d8 b9 d9 𝓛 𝓜.mem 𝓡.returns) _ _ _ (symbol-mask.as_method γ w-mask) refl
          (met-mask.met 𝓤 𝓛 𝓜 inner w-mask R laws copies b1 d1 b2 d2 b3 d3 b4 d4 b5 d5 b6 d6 b7 d7 b8 d8 b9 d9 m1 m2 m3 m4 m5 m6 m7 m8 m9);
    }
