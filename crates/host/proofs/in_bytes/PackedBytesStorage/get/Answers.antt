use Rattle.std.proofs.Common.{◌≡◌, ℕ, ◌+◌, ◌*◌, ◌/◌, ◌%◌, ◌<◌, List, ap, ◌∙◌, arith}
use Rattle.bits.specs.Bit.{bit, pair_bit}
use Rattle.host.specs.Rows.{byte_bit}
use Rattle.host.proofs.RowLaws.{bytes_pair, counted_read, pair_low}
use Rattle.host.proofs.in_bytes.PackedBytesStorage.get.Goals as goal
use Rattle.host.proofs.in_bytes.PackedBytesStorage.get.Goals.{then-shift-count-gt64, else-shift-count-gt64}

pub returns : goal.returns
returns c =
    let bs : List ℕ = c.args.self.now.bytes.now in
    let at : ℕ = c.args.at in
    let n : ℕ = c.args.count in
    let from : ℕ = at / 8 in
    let shift : ℕ = at % 8 in
    let low : ℕ = c.load.result in
    let high : ℕ = c.if-shift-count-gt64.high in
    let e : (i : ℕ) → i < n → pair_bit low high (shift + i) ≡ byte_bit bs (at + i) = λ i h.
    let d : 8 * from + (shift + i) ≡ at + i = omega arith in
    elim c.if-shift-count-gt64.branch [
      | then-shift-count-gt64 w ↦
          bytes_pair bs from low high (shift + i) c.load.ensures.bits
          (λ j l. ap (λ (x : ℕ). bit x j) w.high-is ∙ w.mirrored-high.ensures.bits j l) (omega arith)
          ∙ ap (byte_bit bs) d
      | else-shift-count-gt64 w ↦
          let l : shift + i < 64 = omega (arith, w.if-shift-count-gt64.false) in
          pair_low low high (shift + i) l ∙ c.load.ensures.bits (shift + i) l ∙ ap (byte_bit bs) d
    ] in
    record { bits = counted_read (byte_bit bs) c.part.result at n (λ i. pair_bit low high (shift + i)) c.part.ensures.bits e }
