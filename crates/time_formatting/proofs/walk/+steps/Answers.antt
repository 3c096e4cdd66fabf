use Rattle.std.proofs.Common.{◌≡◌, ℕ, zero, suc, ◌-◌, ◌≤◌, List, [], ◌∷◌, length, take, drop, get_or, Ok as WalkingOk, Err as WalkingErr, refl, ap, sym, ◌∙◌, arith, length-drop, length-take}
use Rattle.std.proofs.lemmas.List.{take_all}
use Rattle.time_values.specs.declared.offset_date_time.OffsetDateTime.{OffsetDateTime}
use Rattle.time_values.specs.Calendar.{greatest_year}
use Rattle.time_components.specs.Tree.{steps_after, further, tree_at, trees_in}
use Rattle.time_components.specs.declared.inspect.Step.{Step}
use Rattle.time_components.specs.declared.inspect.Step.TheVariants as step
use Rattle.time_formatting.specs.Texts.{and_then, first_after, text_after, texts_after}
use Rattle.time_formatting.specs.declared.walk.Unformattable.{Unformattable}
use Rattle.time_formatting.proofs.walk.+steps.Goals as goal

-- ---- The text of a row of steps, item by item

-- the steps after a first step, in the form of a pattern
abbrev behind_first : List Step → List Step
behind_first left = take (length left - 1) (drop 1 left)

row_is : (left : List Step) (x : Step) → 1 ≤ length left → x ≡ get_or left 0 x → left ≡ x ∷ behind_first left
row_is [] x within is = absurd (omega arith)
row_is (s ∷ left) x within is = ap (λ y. y ∷ left) (sym is) ∙ ap (λ l. x ∷ l) (sym (take_all (length (s ∷ left) - 1) left (omega arith)))

after_fewer : (s : Step) (behind : List Step) → length (steps_after s behind) ≤ length behind
after_fewer (step.Literal b) behind = omega (arith, length-drop (length (further behind)) behind)
after_fewer (step.More b) behind = omega (arith, length-drop (length (further behind)) behind)
after_fewer (step.Component c) behind = omega arith
after_fewer (step.Group k len) behind = omega (arith, length-drop len behind)

module _ (most Y : ℕ) (v : OffsetDateTime) (before : List ℕ) (x : Step) (behind : List Step) where
  -- the first item has been written
  pub texts_on : (new : List ℕ) (n : ℕ) (left : List Step) → left ≡ x ∷ behind → length left ≤ n
      → ((m : ℕ) → length behind ≤ m → text_after most Y v before (tree_at (trees_in m) x behind) ≡ WalkingOk new)
      → (m : ℕ) × (length (steps_after x behind) ≤ m)
      × (texts_after most Y v before (trees_in n left) ≡ texts_after most Y v new (trees_in m (steps_after x behind)))
  unfolding trees_in
  texts_on new zero left is fits written = absurd (omega (arith, ap length is))
  texts_on new (suc m) left is fits written = (
    m,
    omega (arith, ap length is, after_fewer x behind),
    ap (λ l. texts_after most Y v before (trees_in (suc m) l)) is
        ∙ ap (λ r. and_then r (λ bytes. texts_after most Y v bytes (trees_in m (steps_after x behind)))) (written m (omega (arith, ap length is))),
  )

  -- the first item has no text
  pub texts_refused : (why : Unformattable) (n : ℕ) (left : List Step) → left ≡ x ∷ behind → length left ≤ n
      → ((m : ℕ) → length behind ≤ m → text_after most Y v before (tree_at (trees_in m) x behind) ≡ WalkingErr why)
      → texts_after most Y v before (trees_in n left) ≡ WalkingErr why
  unfolding trees_in
  texts_refused why zero left is fits refused = absurd (omega (arith, ap length is))
  texts_refused why (suc m) left is fits refused =
      ap (λ l. texts_after most Y v before (trees_in (suc m) l)) is
      ∙ ap (λ r. and_then r (λ bytes. texts_after most Y v bytes (trees_in m (steps_after x behind)))) (refused m (omega (arith, ap length is)))

  -- the first item of a choice
  pub first_is : (n : ℕ) (left : List Step) → left ≡ x ∷ behind → length left ≤ n
      → (m : ℕ) × (length behind ≤ m)
      × (first_after most Y v before (trees_in n left) ≡ text_after most Y v before (tree_at (trees_in m) x behind))
  unfolding trees_in
  first_is zero left is fits = absurd (omega (arith, ap length is))
  first_is (suc m) left is fits = (m, omega (arith, ap length is), ap (λ l. first_after most Y v before (trees_in (suc m) l)) is)

-- no step is left
texts_end : (most Y : ℕ) (v : OffsetDateTime) (before : List ℕ) (n : ℕ) (left : List Step) → length left ≤ 0
    → texts_after most Y v before (trees_in n left) ≡ WalkingOk before
unfolding trees_in
texts_end most Y v before zero [] none = refl
texts_end most Y v before (suc n) [] none = refl
texts_end most Y v before n (s ∷ left) none = absurd (omega arith)

first_end : (most Y : ℕ) (v : OffsetDateTime) (before : List ℕ) (n : ℕ) (left : List Step) → length left ≤ 0
    → first_after most Y v before (trees_in n left) ≡ WalkingOk before
unfolding trees_in
first_end most Y v before zero [] none = refl
first_end most Y v before (suc n) [] none = refl
first_end most Y v before n (s ∷ left) none = absurd (omega arith)

pub write_first-returns-in_default : goal.write_first-returns-in_default
write_first-returns-in_default g t c = λ n fits.
    first_end g.row.CAP greatest_year c.args.value.now c.args.text.now.items n c.args.steps.now (omega arith)

pub write_first-returns-in-Ok : goal.write_first-returns-in-Ok
write_first-returns-in-Ok g t c = λ n fits.
    let steps = c.args.steps.now in
    let x = c.step-item.result in
    let first = first_is g.row.CAP greatest_year c.args.value.now c.args.text.now.items x (behind_first steps) n steps
    (row_is steps x (omega arith) c.step-item.is) fits in
    first.2 ∙ c.in-Ok.ensures.text first.0 first.1

pub write_first-returns-in-Err : goal.write_first-returns-in-Err
write_first-returns-in-Err g t c = λ n fits.
    let steps = c.args.steps.now in
    let x = c.step-item.result in
    let first = first_is g.row.CAP greatest_year c.args.value.now c.args.text.now.items x (behind_first steps) n steps
    (row_is steps x (omega arith) c.step-item.is) fits in
    first.2 ∙ c.in-Err.ensures.text first.0 first.1

pub write_steps-returns-in-Err : goal.write_steps-returns-in-Err
write_steps-returns-in-Err g t c = λ n fits.
    let left = c.loop-left.left.now in
    let x = c.step-item.result in
    let kept = c.loop-left.invariant.0 n fits in
    kept.2 ∙ texts_refused g.row.CAP greatest_year c.args.value.now c.loop-left.text.items x (behind_first left) _ kept.0 left
    (row_is left x (omega arith) c.step-item.is) kept.1 c.in-Err.ensures.text

pub write_steps-loop-left-preserved : goal.write_steps-loop-left-preserved
write_steps-loop-left-preserved g t c =
    let left = c.loop-left.left.now in
    let x = c.step-item.result in
    let new = c.write_item.new.text.items in (
      λ n fits.
          let kept = c.loop-left.invariant.0 n fits in
          let on = texts_on g.row.CAP greatest_year c.args.value.now c.loop-left.text.items x (behind_first left) new kept.0 left
          (row_is left x (omega arith) c.step-item.is) kept.1 c.in-Ok.ensures.text in (
            on.0,
            omega (arith, on.1, ap length c.in-Ok.ensures.after),
            kept.2 ∙ on.2 ∙ ap (λ l. texts_after g.row.CAP greatest_year c.args.value.now new (trees_in on.0 l)) (sym c.in-Ok.ensures.after),
          ),
      omega (arith, c.in-Ok.ensures.fewer, length-take (length left - 1) (drop 1 left), length-drop 1 left),
    )

pub write_steps-returns : goal.write_steps-returns
write_steps-returns g t c = λ n fits.
    let kept = c.loop-left.invariant.0 n fits in
    kept.2 ∙ texts_end g.row.CAP greatest_year c.args.value.now c.loop-left.text.items kept.0 c.loop-left.left.now (omega arith)
