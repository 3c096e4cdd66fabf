use Rattle.std.proofs.Common.{◌≡◌, ℕ, List, [], ◌∷◌, ◌++◌, map, Option, Some, None, refl, ap, ◌∙◌}
use Rattle.std.proofs.lemmas.List.{length-map}
use Rattle.time_components.specs.declared.format_description.Component.{Component}
use Rattle.time_components.specs.declared.inspect.Step.{Step}
use Rattle.time_components.specs.declared.inspect.Step.TheVariants as step
use Rattle.time_descriptions.specs.declared.strftime.Part.{Part}
use Rattle.time_descriptions.specs.Grammar.{by_option}
use Rattle.time_descriptions.specs.Items.{flat, literal, component, steps_of}
use Rattle.time_descriptions.specs.Strftime.{components, item_of_byte, row_of, step_of_byte}
use Rattle.time_descriptions.specs.Parts.{part_items}
use Rattle.time_descriptions.proofs.strftime.push_part.Goals as goal

one_step : (b : ℕ) (o : Option Component)
    → steps_of (by_option (literal b []) component o) ≡ by_option (step.Literal b) step.Component o ∷ []
one_step b None = refl
one_step b (Some c) = refl

flat-map : (bytes : List ℕ) → flat (map item_of_byte bytes) ≡ map step_of_byte bytes
flat-map [] = refl
flat-map (b ∷ bytes) =
    ap (λ (ss : List Step). ss ++ flat (map item_of_byte bytes)) (one_step b (row_of components b))
    ∙ ap (λ (ss : List Step). step_of_byte b ∷ ss) (flat-map bytes)

-- the steps of a shorthand's part
steps_of_part : (p q : Part) (o : Option (List ℕ)) (bytes : List ℕ) → p ≡ q
    → part_items q ≡ by_option [] (map item_of_byte) o → o ≡ Some bytes → flat (part_items p) ≡ map step_of_byte bytes
steps_of_part p q o bytes e d s =
    ap (λ (x : Part). flat (part_items x)) e ∙ ap flat d
    ∙ ap (λ (x : Option (List ℕ)). flat (by_option [] (map item_of_byte) x)) s ∙ flat-map bytes

pub returns-in-Some-clause-ok : goal.returns-in-Some-clause-ok
returns-in-Some-clause-ok g c =
    rw (steps_of_part _ _ _ c.in-Some.bytes.now c.in-Shorthand.is refl c.in-Some.ensures) c.push_shorthand.ensures.ok

pub returns-in-Some-clause-err : goal.returns-in-Some-clause-err
returns-in-Some-clause-err g c =
    rw (steps_of_part _ _ _ c.in-Some.bytes.now c.in-Shorthand.is refl c.in-Some.ensures, length-map) c.push_shorthand.ensures.err
