-- A component in brackets: its name and its modifiers. Bytes are read from the left, and the first fault counts.
use Rattle.std.specs.Prelude.{◌≡◌, ℕ, zero, suc, List, [], ◌∷◌, not, ◌==◌, ◌+◌, ◌-◌, length, take, drop, Option, Some, None, Result, Ok, Err, if◌then◌else◌, ◌⊎◌, ◌<◌, ◌≤◌, ◌++◌}
use Rattle.std.specs.List.{prefix_len}
use Rattle.std.proofs.Common.{Bor}
use Rattle.time_components.specs.declared.format_description.Component.{Component}
use Rattle.time_components.specs.declared.inspect.Step.{Step}
use Rattle.time_descriptions.specs.declared.error.Fault.{Fault}
use Rattle.time_descriptions.specs.declared.error.Fault.TheVariants as fault
use Rattle.time_descriptions.specs.declared.error.Expectation.TheVariants as expected
use Rattle.time_descriptions.specs.declared.modifiers.Modifiers.{Modifiers}
use Rattle.time_descriptions.specs.declared.names.ComponentName.{ComponentName}
use Rattle.time_descriptions.specs.declared.values.Modifier.{Modifier}
use Rattle.time_descriptions.specs.Modifiers as chosen
use Rattle.time_descriptions.specs.Values.{component_names, modifier_keys, modifier_value, is_space, is_of_word, look_up}

-- the result of a parser: what the text begins with, and the remaining bytes; or the first fault
abbrev pub Read : Type 0 → Type 0
Read A = Result (A × List ℕ) Fault

-- the function's result for the value, or the fault
infixl 10 ◌>>=◌
abbrev pub ◌>>=◌ : {A B : Type 0} → Result A Fault → (A → Result B Fault) → Result B Fault
(Ok x) >>= f = f x
(Err e) >>= f = Err e

-- the value of the option, or the fault for `None`
abbrev pub or_fault : {A : Type 0} → Fault → Option A → Result A Fault
or_fault e (Some x) = Ok x
or_fault e None = Err e

-- The result of a function, its value mapped by `view`, is the result of a parser: equal values, or equal faults.
abbrev pub Returns : {X Y : Type 0} → (X → Y) → Result X Fault → Result Y Fault → Type 0
Returns view (Ok x) read = read ≡ Ok (view x)
Returns view (Err e) read = read ≡ Err e

-- the number of bytes before the first colon, or of all bytes if there is no colon
abbrev pub colon : List ℕ → ℕ
colon text = prefix_len (λ b. not (b == 58)) text

-- modifier = key , ":" , value, of the component with that name; `text` is exactly the modifier, and `left` counts the
-- bytes from it to the end of the whole text. Without a colon the fault quotes all of it, for an unknown key the key,
-- and for an invalid value the value.
unfoldable pub modifier : ComponentName → List ℕ → ℕ → Result Modifier Fault
modifier name text left =
    let at = colon text in
    if at == length text then Err (fault.InvalidModifier left (length text))
    else (or_fault (fault.InvalidModifier left at) (look_up (modifier_keys name) (take at text))
    >>= λ key. or_fault (fault.InvalidModifier (left - at - 1) (length (drop (at + 1) text)))
    (modifier_value name key (drop (at + 1) text)))

-- { space , modifier } , [ space ], with at most n modifiers of the component with that name: the values so far,
-- updated by these in order, and the text after them; or the first fault
unfoldable pub modifiers : ComponentName → ℕ → Modifiers → List ℕ → Read Modifiers
modifiers name zero values text = Ok (values, text)
modifiers name (suc n) values text =
    let begun = drop (prefix_len is_space text) text in
    let len = prefix_len is_of_word begun in
    if len == 0 then Ok (values, begun)
    else (modifier name (take len begun) (length begun)
    >>= λ made. modifiers name n (chosen.with_modifier values made) (drop len begun))

-- the text after the component's closing bracket, which the given text begins with; an opening bracket instead is the
-- fault that a modifier is expected there, and the end or another byte is the fault that the component's bracket isn't
-- closed; `opening` counts the bytes from the component's opening bracket to the end of the whole text
abbrev pub after_component : ℕ → List ℕ → Result (List ℕ) Fault
after_component opening [] = Err (fault.UnclosedOpeningBracket opening)
after_component opening (b ∷ rest) =
    if b == 93 then Ok rest
    else (if b == 91 then Err (fault.Expected expected.Modifier (length (b ∷ rest)))
    else Err (fault.UnclosedOpeningBracket opening))

-- component = "[" , [ space ] , name , { space , modifier } , [ space ] , "]", of a text that begins with the bracket:
-- the component, and the text after its closing bracket; a missing count of `ignore` is the fault if there's no other
unfoldable pub bracketed : List ℕ → Read Component
bracketed text =
    let inside = drop 1 text in
    let space = prefix_len is_space inside in
    let named = drop space inside in
    let len = prefix_len is_of_word named in
    if len == 0 then Err (fault.MissingComponentName (if space == 0 then length text else length inside))
    else (or_fault (fault.InvalidComponentName (length named) len) (look_up component_names (take len named))
    >>= λ name. modifiers name (suc (length (drop len named))) chosen.default (drop len named)
    >>= λ read. after_component (length text) read.1
    >>= λ rest. or_fault (fault.MissingCount (length named)) (chosen.component_of name read.0)
    >>= λ c. Ok (c, rest))

-- ---- How a parser of items appends steps

-- The result and the new steps of a parser that appends to `old`, with room for n steps in all. The text parses as
-- `read`, and starts `begun` steps. If these fit, the result is the rest, and `steps` of what is read are appended; or
-- it is the fault in `read`. If not, it is `NoRoom`, and n < old steps + `bytes`. `bytes` is the text's length, or 1
-- more for a group's contents; it limits the appended steps plus the rest's bytes. An error leaves `new` unspecified.
abbrev pub Adds : {A : Type 0} → (A → List Step) → ℕ → Read A → ℕ → ℕ
    → List Step → Result (Bor (List ℕ)) Fault → List Step → Type 0
Adds {A} steps n read begun bytes old (Ok rest) new =
    (x : A) × (read ≡ Ok (x, rest.now)) × (new ≡ old ++ steps x) × (length new + length rest.now ≤ length old + bytes)
    × (begun ≡ length (steps x)) × (begun ≤ n - length old)
Adds steps n read begun bytes old (Err e) new =
    ((e ≡ fault.NoRoom) × (n < length old + bytes) × (n - length old < begun))
    ⊎ ((read ≡ Err e) × (begun ≤ n - length old))
