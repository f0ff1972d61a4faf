use Rattle.std.proofs.Common.{◌≡◌, ℕ, ◌+◌, ◌-◌, ◌*◌, ◌/◌, ◌%◌, ◌^◌, min, List, length, get_or, set, ap, ◌∙◌, arith, length-set}
use Rattle.bits.specs.Bit.{pair_bit}
use Rattle.host.specs.Rows.{word_bit, words_room}
use Rattle.host.proofs.RowLaws.{counted, splice_row, words_pair, words_set, words_set_both, words_single}
use Rattle.host.proofs.in_words.WordsStorage.put.Goals as goal

room_of : (ws vs : List ℕ) → length ws ≡ length vs → words_room ws ≡ words_room vs
room_of ws vs e = ap (λ (n : ℕ). 64 * min n (2 ^ 58 - 1)) e

pub returns-then-shift-count-gt64 : goal.returns-then-shift-count-gt64
returns-then-shift-count-gt64 c =
    let ws : List ℕ = c.args.self.now.words.now in
    let at : ℕ = c.args.at in
    let word : ℕ = at / 64 in
    let low : ℕ = c.spliced-low.result.0 in
    let high : ℕ = c.spliced-low.result.1 in
    let vs : List ℕ = set (set ws word low) (word + 1) high in
    record {
      room = room_of vs ws (length-set (set ws word low) (word + 1) high ∙ length-set ws word low);
      stored = counted (word_bit ws) (word_bit vs) (64 * word + at % 64) at c.args.count c.args.value (omega arith)
          (splice_row (word_bit ws) (word_bit vs) (64 * word) 128 (at % 64) c.args.count c.args.value
          (pair_bit (get_or ws word 0) (get_or ws (word + 1) 0)) (pair_bit low high)
          (words_pair ws word) (λ p. words_set_both ws word low high p (omega arith)) c.spliced-low.ensures.bits (omega arith));
    }

pub returns-else-shift-count-gt64 : goal.returns-else-shift-count-gt64
returns-else-shift-count-gt64 c =
    let ws : List ℕ = c.args.self.now.words.now in
    let at : ℕ = c.args.at in
    let word : ℕ = at / 64 in
    let low : ℕ = c.spliced-low-else-shift-count-gt64.result.0 in
    let high : ℕ = c.spliced-low-else-shift-count-gt64.result.1 in
    let vs : List ℕ = set ws word low in
    record {
      room = room_of vs ws (length-set ws word low);
      stored = counted (word_bit ws) (word_bit vs) (64 * word + at % 64) at c.args.count c.args.value (omega arith)
          (splice_row (word_bit ws) (word_bit vs) (64 * word) 64 (at % 64) c.args.count c.args.value
          (pair_bit (get_or ws word 0) 0) (pair_bit low high)
          (words_single ws word 0) (λ p. words_set ws word low high p (omega arith)) c.spliced-low-else-shift-count-gt64.ensures.bits (omega arith));
    }
