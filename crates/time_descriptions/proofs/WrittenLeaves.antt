-- The text of a leaf that was parsed parses back as the leaf.
use Rattle.std.proofs.Common.{◌≡◌, ℕ, suc, ◌+◌, ◌≤◌, List, [], ◌∷◌, ◌++◌, take, drop, length, Bool, true, false, not, None, Ok, Err, refl, ap, sym, subst, ◌∙◌, append_assoc, arith}
use Rattle.std.proofs.Math.Seq.{take-append_seam, drop-append_seam}
use Rattle.std.proofs.lemmas.Bool.{false≢true, not-true}
use Rattle.std.specs.List.{prefix_len}
use Rattle.std.specs.Prelude.{◌==◌, ◌&&◌, IfOk, if◌then◌else◌}
use Rattle.time_components.specs.declared.format_description.Component.{Component}
use Rattle.time_descriptions.specs.declared.error.Expectation.TheVariants as expected
use Rattle.time_descriptions.specs.declared.error.Fault.{Fault}
use Rattle.time_descriptions.specs.declared.error.Fault.TheVariants as fault
use Rattle.time_descriptions.specs.declared.leaf.Version.TheVariants as versions
use Rattle.time_descriptions.specs.Components.{Read, ◌>>=◌, bracketed}
use Rattle.time_descriptions.specs.Grammar.{ends, escaped, group_word, is_plain, item, leaf}
use Rattle.time_descriptions.specs.Items.{Item, component, literal, tree_of}
use Rattle.time_descriptions.specs.Writing.{is_escaped, tree_text, words_of}
use Rattle.time_descriptions.proofs.Adding.{plain_item}
use Rattle.time_descriptions.proofs.ReadComponents.{Named, bracketed_fits}
use Rattle.time_descriptions.proofs.WrittenComponents.{component_back, Fits}

-- the text of an item
abbrev pub item_text : Item → List ℕ
item_text i = tree_text (tree_of i)

-- whether a literal is written unchanged, so that a plain byte after it would be parsed with it
abbrev pub is_run_of : ℕ → List ℕ → Bool
is_run_of b [] = not (is_escaped b)
is_run_of b (c ∷ bytes) = true

abbrev pub is_run : Item → Bool
is_run (literal b bytes) = is_run_of b bytes
is_run _ = false

-- whether the text begins with no plain byte
abbrev pub stops : Bool → List ℕ → Bool
stops nested [] = true
stops nested (b ∷ rest) = not (is_plain versions.Two nested b)

abbrev pub Apart : Bool → Item → List ℕ → Type 0
Apart nested i after = is_run i ≡ true → stops nested after ≡ true

-- the text of the item that a text begins with parses back as the item
abbrev pub IsBack : (List ℕ → Read Item) → Bool → List ℕ → Item × List ℕ → Type 0
IsBack read nested text x =
    record {
      reads : (after : List ℕ) → Apart nested x.0 after → read (item_text x.0 ++ after) ≡ Ok (x.0, after);
      apart : Apart nested x.0 x.1;
      begins : stops nested text ≡ true → (after : List ℕ) → stops nested (item_text x.0 ++ after) ≡ true;
      on : (after : List ℕ) → ends nested (item_text x.0 ++ after) ≡ false;
      some : 1 ≤ length (item_text x.0);
    }

pub and_false : (b : Bool) → (b && false) ≡ false
and_false true = refl
and_false false = refl

no_run : (b : Bool) (P : Type 0) → b ≡ false → b ≡ true → P
no_run b P e h = absurd (false≢true (sym e ∙ h))

-- A leaf.

pub bracket_leaf : (nested : Bool) (t after : List ℕ) (c : Component) → bracketed (91 ∷ t) ≡ Ok (c, after)
    → leaf versions.Two nested (91 ∷ t) ≡ Ok (component c, after)
unfolding leaf
bracket_leaf nested t after c e = ap (λ (r : Read Component). r >>= λ x. Ok (component x.0, x.1)) e

component_is_back : (depth : ℕ) (nested : Bool) (text rest : List ℕ) (c : Component) → Fits c
    → IsBack (item versions.Two depth nested) nested text (component c, rest)
component_is_back depth nested text rest c f =
    record {
      reads =
          λ after h. let t : List ℕ = words_of c ++ 93 ∷ after in
          let b = component_back c f after in
          ap (λ (x : List ℕ). item versions.Two depth nested (91 ∷ x)) (append_assoc (words_of c) (93 ∷ []) after)
          ∙ plain_item versions.Two depth nested (91 ∷ t) b.1 ∙ bracket_leaf nested t after c b.0;
      apart = λ h. absurd (false≢true h);
      begins = λ h after. refl;
      on = λ after. and_false nested;
      some = omega arith;
    }

abbrev pub written_byte : ℕ → Bool → List ℕ
written_byte b e = if e then 92 ∷ b ∷ [] else b ∷ []

pub escaped_leaf : (depth : ℕ) (nested : Bool) (b : ℕ) (after : List ℕ) → is_escaped b ≡ true
    → item versions.Two depth nested (92 ∷ b ∷ after) ≡ Ok (literal b [], after)
unfolding leaf group_word
escaped_leaf depth nested b after e = plain_item versions.Two depth nested (92 ∷ b ∷ after) refl ∙ rw e refl

escaped_is_back : (depth : ℕ) (nested : Bool) (text rest : List ℕ) (b : ℕ) → is_escaped b ≡ true
    → IsBack (item versions.Two depth nested) nested text (literal b [], rest)
escaped_is_back depth nested text rest b e =
    let w : written_byte b (is_escaped b) ≡ 92 ∷ b ∷ [] = ap (written_byte b) e in
    record {
      reads =
          λ after h. ap (λ (x : List ℕ). item versions.Two depth nested (x ++ after)) w ∙ escaped_leaf depth nested b after e;
      apart = λ h. no_run (not (is_escaped b)) _ (ap not e) h;
      begins = λ h after. ap (λ (x : List ℕ). stops nested (x ++ after)) w;
      on = λ after. ap (λ (x : List ℕ). ends nested (x ++ after)) w ∙ and_false nested;
      some = omega (arith, ap length w);
    }

module _ (nested : Bool) where
  plain : ℕ → Bool
  plain = is_plain versions.Two nested

  front : List ℕ → List ℕ
  front rest = take (prefix_len plain rest) rest

  behind : List ℕ → List ℕ
  behind rest = drop (prefix_len plain rest) rest

  is_not_plain : (b : ℕ) → not (is_plain versions.Two nested b) ≡ true → plain b ≡ false
  unfolding plain
  is_not_plain b s = not-true (is_plain versions.Two nested b) s

  is_no_plain : (b : ℕ) → plain b ≡ false → not (is_plain versions.Two nested b) ≡ true
  unfolding plain
  is_no_plain b e = ap not e

  no_front : (after : List ℕ) → stops nested after ≡ true → prefix_len plain after ≡ 0
  no_front [] s = refl
  no_front (b ∷ after) s = let e = is_not_plain b s in rw e refl

  one_more : (x : ℕ) (rest after : List ℕ) (t : Bool) → plain x ≡ t → stops nested after ≡ true
      → prefix_len plain (front rest ++ after) ≡ length (front rest)
      → prefix_len plain (front (x ∷ rest) ++ after) ≡ length (front (x ∷ rest))
  unfolding front
  one_more x rest after true e s ih =
      let n : 1 + prefix_len plain rest ≡ suc (prefix_len plain rest) = omega arith in
      rw (e, n, e, ih) (omega arith)
  one_more x rest after false e s ih = rw e (no_front after s)

  front_len : (rest after : List ℕ) → stops nested after ≡ true → prefix_len plain (front rest ++ after) ≡ length (front rest)
  unfolding front
  front_len [] after s = no_front after s
  front_len (x ∷ rest) after s = one_more x rest after (plain x) refl s (front_len rest after s)

  stopped_at : (x : ℕ) (rest : List ℕ) (t : Bool) → plain x ≡ t → stops nested (behind rest) ≡ true → stops nested (behind (x ∷ rest)) ≡ true
  unfolding behind
  stopped_at x rest true e ih = let n : 1 + prefix_len plain rest ≡ suc (prefix_len plain rest) = omega arith in rw (e, n) ih
  stopped_at x rest false e ih = rw e (is_no_plain x e)

  stopped : (rest : List ℕ) → stops nested (behind rest) ≡ true
  unfolding behind
  stopped [] = refl
  stopped (x ∷ rest) = stopped_at x rest (plain x) refl (stopped rest)

abbrev written_literal : ℕ → List ℕ → List ℕ
written_literal b bytes = tree_text (tree_of (literal b bytes))

pub plain_leaf : (nested : Bool) (b : ℕ) (bytes after : List ℕ) → (b == 91) ≡ false → (b == 92) ≡ false
    → prefix_len (is_plain versions.Two nested) (bytes ++ after) ≡ length bytes
    → leaf versions.Two nested (b ∷ (bytes ++ after)) ≡ Ok (literal b bytes, after)
unfolding leaf
plain_leaf nested b bytes after x y n = rw (x, y, n, take-append_seam bytes after, drop-append_seam bytes after) refl

pub no_group : (b : ℕ) (rest : List ℕ) → (b == 91) ≡ false → group_word (b ∷ rest) ≡ None
unfolding group_word
no_group b rest x = rw x refl

front_is : (nested : Bool) (rest after : List ℕ) → stops nested after ≡ true
    → prefix_len (is_plain versions.Two nested) (front nested rest ++ after) ≡ length (front nested rest)
unfolding plain
front_is nested rest after s = front_len nested rest after s

run_leaf : (depth : ℕ) (nested : Bool) (b : ℕ) (rest after : List ℕ) → (b == 91) ≡ false → (b == 92) ≡ false → stops nested after ≡ true
    → item versions.Two depth nested (b ∷ (front nested rest ++ after)) ≡ Ok (literal b (front nested rest), after)
run_leaf depth nested b rest after x y s =
    let bytes : List ℕ = front nested rest in
    plain_item versions.Two depth nested (b ∷ (bytes ++ after)) (no_group b (bytes ++ after) x)
    ∙ plain_leaf nested b bytes after x y (front_is nested rest after s)

-- a literal that is written unchanged
run_is_back : (depth : ℕ) (nested : Bool) (b : ℕ) (rest : List ℕ) → (b == 91) ≡ false → (b == 92) ≡ false → (nested && b == 93) ≡ false
    → is_run_of b (front nested rest) ≡ true → written_literal b (front nested rest) ≡ b ∷ front nested rest
    → IsBack (item versions.Two depth nested) nested (b ∷ rest) (literal b (front nested rest), behind nested rest)
run_is_back depth nested b rest x y z r w =
    record {
      reads = λ after h. ap (λ (t : List ℕ). item versions.Two depth nested (t ++ after)) w ∙ run_leaf depth nested b rest after x y (h r);
      apart = λ h. stopped nested rest;
      begins = λ h after. ap (λ (t : List ℕ). stops nested (t ++ after)) w ∙ h;
      on = λ after. ap (λ (t : List ℕ). ends nested (t ++ after)) w ∙ z;
      some = omega (arith, ap length w);
    }

literal_is_back : (depth : ℕ) (nested : Bool) (b : ℕ) (rest bytes : List ℕ) (e : Bool) → (b == 91) ≡ false → (b == 92) ≡ false
    → (nested && b == 93) ≡ false → front nested rest ≡ bytes → is_escaped b ≡ e
    → IsBack (item versions.Two depth nested) nested (b ∷ rest) (literal b (front nested rest), behind nested rest)
literal_is_back depth nested b rest (c ∷ bytes) e x y z f q =
    run_is_back depth nested b rest x y z (ap (is_run_of b) f)
    (ap (written_literal b) f ∙ ap (λ (t : List ℕ). b ∷ t) (sym f))
literal_is_back depth nested b rest [] false x y z f q =
    run_is_back depth nested b rest x y z (ap (is_run_of b) f ∙ ap not q)
    (ap (written_literal b) f ∙ ap (written_byte b) q ∙ ap (λ (t : List ℕ). b ∷ t) (sym f))
literal_is_back depth nested b rest [] true x y z f q =
    let P : List ℕ → Type 0 = λ t. IsBack (item versions.Two depth nested) nested (b ∷ rest) (literal b t, behind nested rest) in
    subst P (sym f) (escaped_is_back depth nested (b ∷ rest) (behind nested rest) b q)

literal_run : (depth : ℕ) (nested : Bool) (b : ℕ) (rest : List ℕ) → (b == 91) ≡ false → (b == 92) ≡ false → (nested && b == 93) ≡ false
    → IsBack (item versions.Two depth nested) nested (b ∷ rest) (
      literal b (take (prefix_len (is_plain versions.Two nested) rest) rest),
      drop (prefix_len (is_plain versions.Two nested) rest) rest,
    )
unfolding front behind plain
literal_run depth nested b rest x y z = literal_is_back depth nested b rest (front nested rest) (is_escaped b) x y z refl refl

pub leaf_pick : (R : Item × List ℕ → Type 0) (x z : Bool) (b d c : Read Item) → IfOk b R → IfOk d R → (x ≡ false → z ≡ false → IfOk c R)
    → IfOk (if x then b else (if z then d else c)) R
leaf_pick R true z b d c p q h = p
leaf_pick R false true b d c p q h = q
leaf_pick R false false b d c p q h = h refl refl

pub escape_pick : (R : Item × List ℕ → Type 0) (c : Bool) (x : Item × List ℕ) (e : Fault) → (c ≡ true → R x) → IfOk (if c then Ok x else Err e) R
escape_pick R true x e h = h refl
escape_pick R false x e h = tt

pub bracket_pick : (R : Item × List ℕ → Type 0) (r : Read Component) → ((c : Component) (rest : List ℕ) → Fits c → R (component c, rest)) → IfOk r Named
    → IfOk (r >>= λ x. Ok (component x.0, x.1)) R
bracket_pick R (Ok x) h p = h x.0 x.1 p
bracket_pick R (Err e) h p = tt

escaped_back : (depth : ℕ) (nested : Bool) (text rest : List ℕ) → IfOk (escaped rest) (IsBack (item versions.Two depth nested) nested text)
escaped_back depth nested text [] = tt
escaped_back depth nested text (b ∷ rest) =
    escape_pick (IsBack (item versions.Two depth nested) nested text) (is_escaped b) (literal b [], rest)
    (fault.Expected expected.EscapedByte (length (b ∷ rest))) (escaped_is_back depth nested text rest b)

pub leaf_back : (depth : ℕ) (nested : Bool) (text : List ℕ) → ends nested text ≡ false
    → IfOk (leaf versions.Two nested text) (IsBack (item versions.Two depth nested) nested text)
unfolding leaf
leaf_back depth nested [] e = tt
leaf_back depth nested (b ∷ rest) e =
    let R : Item × List ℕ → Type 0 = IsBack (item versions.Two depth nested) nested (b ∷ rest) in
    let len = prefix_len (is_plain versions.Two nested) rest in
    leaf_pick R (b == 91) (b == 92) (bracketed (b ∷ rest) >>= λ x. Ok (component x.0, x.1)) (escaped rest)
    (Ok (literal b (take len rest), drop len rest))
    (bracket_pick R (bracketed (b ∷ rest)) (λ c after f. component_is_back depth nested (b ∷ rest) after c f) (bracketed_fits (b ∷ rest)))
    (escaped_back depth nested (b ∷ rest) rest)
    (λ x y. literal_run depth nested b rest x y e)
