use Rattle.std.proofs.Common.{◌≡◌, ℕ, ◌≤◌, List, [], ◌∷◌, length, drop, get_or, Some, refl, sym, subst, arith}
use Rattle.std.proofs.lemmas.Grind.{common_steps}
use Rattle.std.specs.Prelude.{◌==◌, if◌then◌else◌}
use Rattle.time_descriptions.specs.Strftime.{row_of}
use Rattle.time_descriptions.proofs.letters.row_of.Goals as goal

first_row : {V : Type 0} (left : List (ℕ × V)) (x : ℕ × V) (letter : ℕ) → 1 ≤ length left → x ≡ get_or left 0 x
    → row_of left letter ≡ (if x.0 == letter then Some x.1 else row_of (drop 1 left) letter)
unfolding row_of
first_row [] x letter h e = absurd (omega arith)
first_row {V} (y ∷ ys) x letter h e =
    let P : ℕ × V → Type 0 = λ z. row_of (y ∷ ys) letter ≡ (if z.0 == letter then Some z.1 else row_of (drop 1 (y ∷ ys)) letter) in
    subst P (sym e) refl

pub returns-then-first-letter : goal.returns-then-first-letter
returns-then-first-letter g c =
    let h = first_row c.loop-left.left.now c.first-item.result c.args.letter c.in-len1-up.len_at_least c.first-item.is in
    grind (arith, common_steps, h)

pub loop-left-preserved : goal.loop-left-preserved
loop-left-preserved g c =
    let h = first_row c.loop-left.left.now c.first-item.result c.args.letter c.in-len1-up.len_at_least c.first-item.is in
    grind (arith, common_steps, h)

pub returns : goal.returns
unfolding row_of
returns g c = grind (arith, common_steps)
