-- Walking through a list, for one that passes a test or for all of them.
use Rattle.std.proofs.Common.{◌≡◌, ℕ, ◌+◌, ◌<◌, ◌≤◌, Bool, true, false, ◌&&◌, ◌||◌, List, length, get_or, drop, sym, ap, ◌∙◌}
use Rattle.std.proofs.lemmas.List.{at_drop_more, at_drop_all}
use Rattle.components.specs.Concatenations.{some_of, all_of}

module _ {A : Type 0} (test : A → Bool) (xs : List A) (i : ℕ) (so_far : some_of test (drop i xs) ≡ some_of test xs) where
  -- x, which stands here, passes
  pub some_here : (x d : A) → i < length xs → x ≡ get_or xs i d → test x ≡ true → some_of test xs ≡ true
  some_here x d h e t =
      let passes = sym (ap test e) ∙ t in
      sym so_far ∙ at_drop_more (some_of test) xs i d h ∙ ap (λ b. b || some_of test (drop (i + 1) xs)) passes

  -- x, which stands here, does not: what is left decides
  pub some_further : (x d : A) → i < length xs → x ≡ get_or xs i d → test x ≡ false → some_of test (drop (i + 1) xs) ≡ some_of test xs
  some_further x d h e t =
      let fails = sym (ap test e) ∙ t in
      sym (ap (λ b. b || some_of test (drop (i + 1) xs)) fails) ∙ sym (at_drop_more (some_of test) xs i d h) ∙ so_far

  -- nothing is left
  pub some_nowhere : length xs ≤ i → some_of test xs ≡ false
  some_nowhere h = sym so_far ∙ at_drop_all (some_of test) xs i h

module _ {A : Type 0} (test : A → Bool) (xs : List A) (i : ℕ) (so_far : all_of test (drop i xs) ≡ all_of test xs) where
  -- the one here does not pass
  pub all_stops : (d : A) → i < length xs → test (get_or xs i d) ≡ false → all_of test xs ≡ false
  all_stops d h t =
      sym so_far ∙ at_drop_more (all_of test) xs i d h ∙ ap (λ b. b && all_of test (drop (i + 1) xs)) t

  -- the one here passes: what is left decides
  pub all_further : (d : A) → i < length xs → test (get_or xs i d) ≡ true → all_of test (drop (i + 1) xs) ≡ all_of test xs
  all_further d h t =
      sym (ap (λ b. b && all_of test (drop (i + 1) xs)) t) ∙ sym (at_drop_more (all_of test) xs i d h) ∙ so_far

  -- nothing is left
  pub all_done : length xs ≤ i → all_of test xs ≡ true
  all_done h = sym so_far ∙ at_drop_all (all_of test) xs i h
