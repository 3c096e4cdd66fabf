use Rattle.std.specs.Option.{option_map}
use Rattle.std.proofs.Common.{◌≡◌, ℕ, zero, suc, ◌+◌, ◌<◌, List, [], ◌∷◌, length, get_or, take, drop, refl, ap, arith, ◌∙◌, None, Some, sym}
use Rattle.std.proofs.lemmas.Bool.Decides.{nat_tests}
use Rattle.std.proofs.lemmas.List.{take_rest}
use Rattle.byte_streams.proofs.LinesLemmas.{drop_more}
use Rattle.time_lines.specs.Output.{split_at_tab}
use Rattle.time_lines.proofs.serving.split_at_tab.Goals as goal

-- ---- A line, split at its first TAB

at_tab : (x : ℕ) (xs : List ℕ) → x ≡ 9 → split_at_tab (x ∷ xs) ≡ Some ([], xs)
at_tab x xs e = rw e

past_tab : (x : ℕ) (xs : List ℕ) → (x ≡ 9 → ⊥) → split_at_tab (x ∷ xs) ≡ option_map (λ split. (x ∷ split.0, split.1)) (split_at_tab xs)
past_tab x xs ne = grind (arith, nat_tests)

split_at_tab-found : (xs : List ℕ) (n : ℕ) → n < length xs
    → get_or xs n 0 ≡ 9 → ((k : ℕ) → k < n → get_or xs k 0 ≡ 9 → ⊥)
    → split_at_tab xs ≡ Some (take n xs, drop (n + 1) xs)
split_at_tab-found [] n h e before = absurd (omega arith)
split_at_tab-found (x ∷ xs) zero h e before = at_tab x xs e
split_at_tab-found (x ∷ xs) (suc n) h e before =
    rw drop_more
    (past_tab x xs (before 0 (omega arith))
    ∙ ap (option_map (λ split. (x ∷ split.0, split.1)))
    (split_at_tab-found xs n (omega arith) e (λ k below. before (suc k) (omega arith))))

split_at_tab-none : (xs : List ℕ) → ((k : ℕ) → k < length xs → get_or xs k 0 ≡ 9 → ⊥) → split_at_tab xs ≡ None
split_at_tab-none [] before = refl
split_at_tab-none (x ∷ xs) before =
    past_tab x xs (before 0 (omega arith)) ∙ ap (option_map (λ split. (x ∷ split.0, split.1))) (split_at_tab-none xs (λ k below. before (suc k) (omega arith)))

pub returns-then-b-eq9 : goal.returns-then-b-eq9
returns-then-b-eq9 c =
    rw (take_rest c.args.bytes.now (c.loop-i.i + 1)) (sym (split_at_tab-found c.args.bytes.now c.loop-i.i (omega arith) c.if-b-eq9.true c.loop-i.invariant))

pub returns : goal.returns
returns c = sym (split_at_tab-none c.args.bytes.now (λ k below. c.loop-i.invariant k (omega arith)))
