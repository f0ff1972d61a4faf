use Rattle.std.proofs.Common.{◌≡◌, ℕ, ◌+◌, ◌*◌, ◌/◌, ◌%◌, ◌<◌, List, get_or, ap, ◌∙◌, arith}
use Rattle.bits.specs.Bit.{pair_bit}
use Rattle.host.specs.Rows.{word_bit}
use Rattle.host.proofs.RowLaws.{counted_read, words_pair, words_single}
use Rattle.host.proofs.in_words.WordsStorage.get.Goals as goal
use Rattle.host.proofs.in_words.WordsStorage.get.Goals.{then-shift-count-gt64, else-shift-count-gt64}

pub returns : goal.returns
returns c =
    let ws : List ℕ = c.args.self.now.words.now in
    let at : ℕ = c.args.at in
    let n : ℕ = c.args.count in
    let word : ℕ = at / 64 in
    let shift : ℕ = at % 64 in
    let high : ℕ = c.if-shift-count-gt64.high in
    let e : (i : ℕ) → i < n → pair_bit (get_or ws word 0) high (shift + i) ≡ word_bit ws (at + i) = λ i h.
    let d : 64 * word + (shift + i) ≡ at + i = omega arith in
    elim c.if-shift-count-gt64.branch [
      | then-shift-count-gt64 w ↦
          ap (λ (x : ℕ). pair_bit (get_or ws word 0) x (shift + i)) w.high-is ∙ words_pair ws word (shift + i) (omega arith) ∙ ap (word_bit ws) d
      | else-shift-count-gt64 w ↦
          words_single ws word high (shift + i) (omega (arith, w.if-shift-count-gt64.false)) ∙ ap (word_bit ws) d
    ] in
    record { bits = counted_read (word_bit ws) c.part.result at n (λ i. pair_bit (get_or ws word 0) high (shift + i)) c.part.ensures.bits e }
