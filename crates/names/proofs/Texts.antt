-- How many bytes texts have together.
use Rattle.std.proofs.Common.{◌≡◌, ℕ, ◌+◌, Bool, true, false, cond, List, [], ◌∷◌, ◌++◌, length, sym, refl, ap, ◌∙◌, subst, add-zero, add_assoc, zero-add, arith}
use Rattle.std.proofs.lemmas.List.{length-append}
use Rattle.pool.specs.declared.entry.Entry.{Entry}
use Rattle.pool.specs.Firsts.{known, with_key}
use Rattle.pool.specs.Words.{by_word}
use Rattle.names.specs.declared.numbers.PName.{PName}
use Rattle.names.specs.Inserted.{Inserted}
use Rattle.names.specs.Names.{Name, total, Grows}

-- one more text
pub total_push : (texts : List (List ℕ)) (text : List ℕ) → total (texts ++ text ∷ []) ≡ total texts + length text
total_push [] text = add-zero (length text) ∙ sym (zero-add (length text))
total_push (t ∷ ts) text = ap (λ (n : ℕ). length t + n) (total_push ts text) ∙ sym (add_assoc (length t) (total ts) (length text))

-- one more text that may be known
pub total_with : (texts : List (List ℕ)) (text : List ℕ) → total (with_key by_word texts text) ≡ cond (known by_word texts text) (total texts) (total texts + length text)
total_with texts text = go (known by_word texts text)
  where
    go : (b : Bool) → total (cond b texts (texts ++ text ∷ [])) ≡ cond b (total texts) (total texts + length text)
    go true = refl
    go false = total_push texts text

-- so there is at most one text more
pub length_grows : (texts : List (List ℕ)) (text : List ℕ) → Grows (length texts) 1 (length (with_key by_word texts text))
length_grows texts text = go (known by_word texts text)
  where
    go : (b : Bool) → Grows (length texts) 1 (length (cond b texts (texts ++ text ∷ [])))
    go true = (omega arith, omega arith)
    go false = let n = length-append texts (text ∷ []) in (omega arith, omega arith)

-- and at most its bytes
pub total_grows : (texts : List (List ℕ)) (text : List ℕ) → Grows (total texts) (length text) (total (with_key by_word texts text))
total_grows texts text = go (known by_word texts text)
  where
    go : (b : Bool) → Grows (total texts) (length text) (total (cond b texts (texts ++ text ∷ [])))
    go true = (omega arith, omega arith)
    go false = let n = total_push texts text in (omega arith, omega arith)

-- what an insertion leaves, in other words for what the memory then holds
pub inserted_over : (before : List (List ℕ)) (stored : ℕ) (text : List ℕ) (name : PName) (used held : ℕ) (es fs : List (Entry Name (Unit {0}))) (bs cs : List ℕ) → es ≡ fs → bs ≡ cs → Inserted before stored text name used held fs cs → Inserted before stored text name used held es bs
inserted_over before stored text name used held es fs bs cs e b i = subst (λ l. Inserted before stored text name used held l bs) (sym e) (subst (λ l. Inserted before stored text name used held fs l) (sym b) i)
