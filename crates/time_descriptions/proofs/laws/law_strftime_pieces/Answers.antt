use Rattle.std.specs.List.{flat_map}
use Rattle.std.specs.Option.{option_map}
use Rattle.std.specs.Prelude.{◌==◌, is_some, option_and_then, if◌then◌else◌}
use Rattle.std.proofs.Common.{◌≡◌, ℕ, zero, suc, ◌+◌, ◌≤◌, List, [], ◌∷◌, ◌++◌, length, map, Bool, true, false, Option, Some, None, Result, Ok, refl, ap, sym, subst, ◌∙◌, arith}
use Rattle.std.proofs.lemmas.Bool.{eqb-true, false≢true}
use Rattle.time_digits.specs.declared.Padding.{Padding}
use Rattle.time_components.specs.declared.format_description.Component.{Component}
use Rattle.time_components.specs.Tree.{Tree, sequence}
use Rattle.time_descriptions.specs.declared.error.Fault.{Fault}
use Rattle.time_descriptions.specs.declared.error.Fault.TheVariants as fault
use Rattle.time_descriptions.specs.Components.{◌>>=◌, or_fault}
use Rattle.time_descriptions.specs.Grammar.{by_option}
use Rattle.time_descriptions.specs.Items.{Item, literal, component, items_of, trees_of}
use Rattle.time_descriptions.specs.Strftime.{Rows, components, item_of_byte, meaning, offset, colon_offset, pointed_fraction, flags, flagged_meaning, row_of, shorthands, Found, conversion, flagged, followed, letter_fault, padded, started, strftime, with_padding, DescribesStrftime}
use Rattle.time_descriptions.specs.declared.letters.Flag.{Flag}
use Rattle.time_descriptions.specs.declared.letters.Flag.TheVariants as flag
use Rattle.time_descriptions.specs.Description.{Piece, byte, conversion as conversion_piece, flagged as flagged_piece, all_items, piece_items, piece_text, HasPieces}
use Rattle.time_descriptions.proofs.laws.law_strftime_pieces.Goals as goal

-- ---- A text of strftime is parsed piece by piece

none_some : {A : Type 0} (x : A) → None ≡ Some x → ⊥
none_some x e = false≢true (ap is_some e)

some_in : {A : Type 0} (x : A) (o : Option A) → A
some_in x (Some y) = y
some_in x None = x

some_same : {A : Type 0} (x y : A) → Some x ≡ Some y → x ≡ y
unfolding some_in
some_same x y e = ap (some_in x) e

-- A letter with a meaning after a flag has one without it; a flag has no meaning as a letter.

padded_means : (z : Bool) (s : Option (List Item)) (p : Padding) (c : Component) (o : Option Component)
    → option_and_then (with_padding p) o ≡ Some c
    → (is : List Item) × ((if z then Some offset else by_option s (λ d. Some (component d ∷ [])) o) ≡ Some is)
padded_means true s p c o e = (offset, refl)
padded_means false s p c (Some d) e = (component d ∷ [], refl)
padded_means false s p c None e = absurd (none_some c e)

padded_some : (p : Padding) (b : ℕ) (is : List Item) (q : Option Component) → padded p b ≡ q
    → option_map (λ c. component c ∷ []) q ≡ Some is → (js : List Item) × (meaning b ≡ Some js)
padded_some p b is None e h = absurd (none_some is h)
padded_some p b is (Some c) e h =
    padded_means (b == 122) (option_map (map item_of_byte) (row_of shorthands b)) p c (row_of components b) e

only_means : (b n : ℕ) (t : Bool) (x is js : List Item) → (b == n) ≡ t → (if t then Some x else None) ≡ Some is → meaning n ≡ Some js
    → (ks : List Item) × (meaning b ≡ Some ks)
only_means b n true x is js e h m = (js, subst (λ (k : ℕ). meaning k ≡ Some js) (sym (eqb-true b n e)) m)
only_means b n false x is js e h m = absurd (none_some is h)

flagged_means : (f : Flag) (b : ℕ) (is : List Item) → flagged_meaning f b ≡ Some is → (js : List Item) × (meaning b ≡ Some js)
unfolding row_of components shorthands
flagged_means (flag.Padding p) b is h = padded_some p b is (padded p b) refl h
flagged_means (flag.Digits d) b is h = only_means b 102 (b == 102) _ is _ refl h refl
flagged_means flag.Point b is h = only_means b 102 (b == 102) pointed_fraction is _ refl h refl
flagged_means flag.Colon b is h = only_means b 122 (b == 122) colon_offset is offset refl h refl

-- no letter of these rows has a meaning
abbrev HaveNoMeaning : Rows Flag → Type 0
HaveNoMeaning [] = Unit {0}
HaveNoMeaning (r ∷ rows) = (meaning r.0 ≡ None) × HaveNoMeaning rows

row_means : (r : ℕ × Flag) (x : Option Flag) (b : ℕ) (f : Flag) (t : Bool) → (r.0 == b) ≡ t → meaning r.0 ≡ None
    → (x ≡ Some f → meaning b ≡ None) → (if t then Some r.1 else x) ≡ Some f → meaning b ≡ None
row_means r x b f true e n other h = subst (λ (k : ℕ). meaning k ≡ None) (eqb-true r.0 b e) n
row_means r x b f false e n other h = other h

rows_mean : (rows : Rows Flag) (b : ℕ) (f : Flag) → HaveNoMeaning rows → row_of rows b ≡ Some f → meaning b ≡ None
unfolding row_of
rows_mean [] b f n h = absurd (none_some f h)
rows_mean (r ∷ rows) b f n h = row_means r (row_of rows b) b f (r.0 == b) refl n.0 (rows_mean rows b f n.1) h

flag_means : (b : ℕ) (f : Flag) → row_of flags b ≡ Some f → meaning b ≡ None
unfolding row_of flags components shorthands
flag_means b f h = rows_mean flags b f (refl, (refl, (refl, (refl, (refl, (refl, (refl, (refl, tt)))))))) h

-- A piece at the start of a text parses as its items.

byte_read : (t : Bool) (b : ℕ) (here : List Item) (x y : Found) → (if t then None else Some (literal b [] ∷ [])) ≡ Some here
    → (if t then x else followed (literal b [] ∷ []) y) ≡ followed here y
byte_read true b here x y e = absurd (none_some here e)
byte_read false b here x y e = ap (λ (is : List Item). followed is y) (some_same (literal b [] ∷ []) here e)

letter_read : (o : Option Flag) (m : Option (List Item)) (here : List Item) (e : Fault) (x : Flag → Found) (y : Found) → m ≡ Some here
    → ((f : Flag) → o ≡ Some f → m ≡ None) → by_option (started (or_fault e m) y) x o ≡ followed here y
letter_read None m here e x y h g = ap (λ (n : Option (List Item)). started (or_fault e n) y) h
letter_read (Some f) m here e x y h g = absurd (none_some here (sym (g f refl) ∙ h))

both_read : (m q : Option (List Item)) (e f : Fault) (is here : List Item) → m ≡ Some is → q ≡ Some here
    → (or_fault e m >>= λ js. or_fault f q) ≡ Ok here
both_read m q e f is here h g = ap (λ (n : Option (List Item)). or_fault e n >>= λ js. or_fault f q) h ∙ ap (or_fault f) g

flagged_read : (f : Flag) (b : ℕ) (rest : List ℕ) (here : List Item) → flagged_meaning f b ≡ Some here
    → flagged f (b ∷ rest) ≡ followed here (strftime rest)
unfolding flagged
flagged_read f b rest here h =
    let left : ℕ = length (b ∷ rest) in
    let m = flagged_means f b here h in
    ap (λ (r : Result (List Item) Fault). started r (strftime rest))
    (both_read (meaning b) (flagged_meaning f b) (letter_fault (left + 2) left b) (fault.InvalidModifier (left + 1) 1) m.0 here m.1 h)

flag_read : (o : Option Flag) (x : Found) (b : ℕ) (rest : List ℕ) (here : List Item)
    → option_and_then (λ f. flagged_meaning f b) o ≡ Some here → by_option x (λ f. flagged f (b ∷ rest)) o ≡ followed here (strftime rest)
flag_read None x b rest here h = absurd (none_some here h)
flag_read (Some f) x b rest here h = flagged_read f b rest here h

piece_read : (q : Piece) (here : List Item) (rest : List ℕ) → piece_items q ≡ Some here
    → strftime (piece_text q ++ rest) ≡ followed here (strftime rest)
unfolding strftime conversion
piece_read (byte b) here rest h = byte_read (b == 37) b here (conversion rest) (strftime rest) h
piece_read (conversion_piece b) here rest h =
    let left : ℕ = length (b ∷ rest) in
    letter_read (row_of flags b) (meaning b) here (letter_fault (left + 1) left b) (λ f. flagged f rest) (strftime rest) h
    (λ f e. flag_means b f e)
piece_read (flagged_piece f b) here rest h =
    let left : ℕ = length (f ∷ b ∷ rest) in
    flag_read (row_of flags f) (started (or_fault (letter_fault (left + 1) left f) (meaning f)) (strftime (b ∷ rest))) b rest here h

-- pieces are parsed one after another
piece_on : (q : Piece) (ps : List Piece) (is : List Item) (o r : Option (List Item)) → piece_items q ≡ o → all_items ps ≡ r
    → option_and_then (λ here. option_map (λ there. here ++ there) r) o ≡ Some is
    → ((there : List Item) → all_items ps ≡ Some there → strftime (flat_map piece_text ps) ≡ (there, None))
    → strftime (piece_text q ++ flat_map piece_text ps) ≡ (is, None)
piece_on q ps is None r e f h ih = absurd (none_some is h)
piece_on q ps is (Some here) None e f h ih = absurd (none_some is h)
piece_on q ps is (Some here) (Some there) e f h ih =
    let put : List Item → Found = λ js. (js, None) in
    piece_read q here (flat_map piece_text ps) e ∙ ap (followed here) (ih there f) ∙ ap put (some_same (here ++ there) is h)

pieces_read : (ps : List Piece) (is : List Item) → all_items ps ≡ Some is → strftime (flat_map piece_text ps) ≡ (is, None)
unfolding strftime
pieces_read [] is h = let put : List Item → Found = λ js. (js, None) in ap put (some_same [] is h)
pieces_read (q ∷ ps) is h = piece_on q ps is (piece_items q) (all_items ps) refl refl h (pieces_read ps)

-- A text without a fault begins with a piece.

abbrev Clean : Found → Type 0
Clean found = found.1 ≡ None

abbrev Starts : List ℕ → Type 0
Starts text =
    record {
      piece : Piece;
      here : List Item;
      rest : List ℕ;
      is : text ≡ piece_text piece ++ rest;
      means : piece_items piece ≡ Some here;
      shorter : length rest + 1 ≤ length text;
    }

faulty : {A : Type 0} (e : Fault) → Some e ≡ None → A
faulty e h = absurd (none_some e (sym h))

first_letter : (c : ℕ) (text : List ℕ) (m : Option (List Item)) (e : Fault) → meaning c ≡ m → Clean (started (or_fault e m) (strftime text))
    → Starts (37 ∷ c ∷ text)
first_letter c text None e g h = faulty e h
first_letter c text (Some is) e g h =
    record { piece = conversion_piece c; here = is; rest = text; is = refl; means = g; shorter = omega arith }

first_both : (f : Flag) (c d : ℕ) (text : List ℕ) (m q : Option (List Item)) (e g : Fault) → row_of flags c ≡ Some f
    → flagged_meaning f d ≡ q → Clean (started (or_fault e m >>= λ is. or_fault g q) (strftime text)) → Starts (37 ∷ c ∷ d ∷ text)
first_both f c d text None q e g k l h = faulty e h
first_both f c d text (Some is) None e g k l h = faulty g h
first_both f c d text (Some is) (Some here) e g k l h =
    record {
      piece = flagged_piece c d;
      here = here;
      rest = text;
      is = refl;
      means = ap (option_and_then (λ r. flagged_meaning r d)) k ∙ l;
      shorter = omega arith;
    }

first_flagged : (f : Flag) (c : ℕ) (text : List ℕ) → row_of flags c ≡ Some f → Clean (flagged f text) → Starts (37 ∷ c ∷ text)
unfolding flagged
first_flagged f c [] k h = faulty (fault.InvalidComponentName 0 0) h
first_flagged f c (d ∷ text) k h =
    let left : ℕ = length (d ∷ text) in
    first_both f c d text (meaning d) (flagged_meaning f d) (letter_fault (left + 2) left d) (fault.InvalidModifier (left + 1) 1) k refl h

first_after : (c : ℕ) (text : List ℕ) (e : Fault) (o : Option Flag) → row_of flags c ≡ o
    → Clean (by_option (started (or_fault e (meaning c)) (strftime text)) (λ f. flagged f text) o) → Starts (37 ∷ c ∷ text)
first_after c text e None k h = first_letter c text (meaning c) e refl h
first_after c text e (Some f) k h = first_flagged f c text k h

first_conversion : (text : List ℕ) → Clean (conversion text) → Starts (37 ∷ text)
unfolding conversion
first_conversion [] h = faulty (fault.InvalidComponentName 0 0) h
first_conversion (c ∷ text) h =
    let left : ℕ = length (c ∷ text) in first_after c text (letter_fault (left + 1) left c) (row_of flags c) refl h

first_on : (b : ℕ) (text : List ℕ) (t : Bool) → (b == 37) ≡ t
    → Clean (if t then conversion text else followed (literal b [] ∷ []) (strftime text)) → Starts (b ∷ text)
first_on b text true g h = subst (λ (n : ℕ). Starts (n ∷ text)) (sym (eqb-true b 37 g)) (first_conversion text h)
first_on b text false g h =
    let items : Bool → Option (List Item) = λ t. if t then None else Some (literal b [] ∷ []) in
    record { piece = byte b; here = literal b [] ∷ []; rest = text; is = refl; means = ap items g; shorter = omega arith }

first : (b : ℕ) (text : List ℕ) → Clean (strftime (b ∷ text)) → Starts (b ∷ text)
unfolding strftime
first b text h = first_on b text (b == 37) refl h

no_pieces : (ps : List Piece) × ([] ≡ flat_map piece_text ps) × (all_items ps ≡ Some (strftime []).0)
unfolding strftime
no_pieces = ([], refl, refl)

-- a text without a fault splits into pieces
pieces : (n : ℕ) (text : List ℕ) → length text ≤ n → (strftime text).1 ≡ None
    → (ps : List Piece) × (text ≡ flat_map piece_text ps) × (all_items ps ≡ Some (strftime text).0)
pieces n [] l h = no_pieces
pieces zero (b ∷ text) l h = absurd (omega (arith, l))
pieces (suc n) (b ∷ text) l h =
    let s = first b text h in
    let whole : strftime (b ∷ text) ≡ followed s.here (strftime s.rest) = ap strftime s.is ∙ piece_read s.piece s.here s.rest s.means in
    let clean : (strftime s.rest).1 ≡ None = sym (ap (λ (f : Found). f.1) whole) ∙ h in
    let others = pieces n s.rest (omega (arith, l, s.shorter)) clean in
    let join : List Item → Option (List Item) = λ is. option_map (λ there. is ++ there) (all_items others.0) in
    let put : Option (List Item) → Option (List Item) = option_map (λ there. s.here ++ there) in (
      s.piece ∷ others.0,
      s.is ∙ ap (λ (t : List ℕ). piece_text s.piece ++ t) others.1,
      ap (option_and_then join) s.means ∙ ap put others.2 ∙ ap (λ (f : Found). Some f.0) (sym whole),
    )

parted : (text : List ℕ) (tree : Tree) → DescribesStrftime text tree → HasPieces text tree
unfolding DescribesStrftime
parted text tree d = let r = pieces (length text) text (omega arith) d.0 in (r.0, (strftime text).0, r.1, r.2, d.1)

described : (text : List ℕ) (tree : Tree) → HasPieces text tree → DescribesStrftime text tree
unfolding DescribesStrftime
described text tree x =
    let e : strftime text ≡ (x.1, None) = ap strftime x.2 ∙ pieces_read x.0 x.1 x.3 in
    let tree_in : Found → Tree = λ f. sequence (trees_of (items_of f.0)) in (
      ap (λ (f : Found). f.1) e,
      x.4 ∙ ap tree_in (sym e),
    )

pub returns : goal.returns
returns c text tree = (parted text tree, described text tree)
