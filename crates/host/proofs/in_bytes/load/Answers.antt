use Rattle.std.proofs.Common.{ℕ, ◌+◌, ◌*◌, ◌/◌, ◌%◌, ◌<◌, List, get_or, sym, ap, ◌∙◌, arith, rules}
use Rattle.std.proofs.lemmas.Nat.{le_bytes_8}
use Rattle.bits.specs.Bit.{bit, mirror}
use Rattle.host.proofs.RowLaws.{byte_at, le_bit}
use Rattle.host.proofs.in_bytes.load.Goals as goal

pub returns-then-bytes-from-ge8 : goal.returns-then-bytes-from-ge8
returns-then-bytes-from-ge8 c =
    let bs : List ℕ = c.args.bytes.now in
    let from : ℕ = c.args.from in
    let eight : List ℕ = c.eight.result in
    let raw : ℕ = c.from_le_bytes.result in
    record {
      bits = λ i h.
          let m : ℕ = mirror i in
          let l : m < 64 = omega arith in
          c.mirrored.ensures.bits i h ∙ sym (le_bit raw m l)
          ∙ ap (λ (xs : List ℕ). bit (get_or xs (m / 8) 0) (m % 8)) (le_bytes_8 eight raw (search rules) (search rules) c.from_le_bytes.ensures)
          ∙ ap (λ (x : ℕ). bit x (m % 8)) (c.eight.ensures.bytes (m / 8) (omega arith))
          ∙ sym (byte_at bs (8 * from + i) (from + m / 8) (m % 8) (omega arith) (omega arith));
    }
