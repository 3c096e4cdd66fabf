-- The text of items in order, and of lists, parses back as the items and the lists.
use Rattle.std.proofs.Common.{◌≡◌, ℕ, zero, suc, ◌-◌, ◌≤◌, List, [], ◌∷◌, ◌++◌, length, Bool, true, false, not, Option, Some, None, Result, Ok, Err, refl, ap, sym, ◌∙◌, append_assoc, append-nil, length-append, arith}
use Rattle.std.proofs.lemmas.Bool.{and_right}
use Rattle.std.specs.Prelude.{◌==◌, ◌&&◌, IfOk, if◌then◌else◌}
use Rattle.time_components.specs.declared.inspect.Group.TheVariants as groups
use Rattle.time_descriptions.specs.declared.error.Fault.{Fault}
use Rattle.time_descriptions.specs.declared.error.Fault.TheVariants as fault
use Rattle.time_descriptions.specs.Components.{Read, ◌>>=◌}
use Rattle.time_descriptions.specs.Grammar.{after_byte, before, by_option, ends, items_by, list_by, lists_by, next_list}
use Rattle.time_descriptions.specs.Items.{Item, group, items_of, trees_of}
use Rattle.time_descriptions.specs.Writing.{lists_text, trees_text}
use Rattle.time_descriptions.proofs.Adding.{ended, went_on}
use Rattle.time_descriptions.proofs.WrittenLeaves.{IsBack, item_text, stops}

-- the text of items, and of the lists of a choice
abbrev pub text_of : List Item → List ℕ
text_of is = trees_text (trees_of (items_of is))

abbrev pub lists_of : List Item → List ℕ
lists_of is = lists_text (trees_of (items_of is))

-- Items in order.

pub ends_stops : (nested : Bool) (after : List ℕ) → ends nested after ≡ true → stops nested after ≡ true
ends_stops nested [] e = refl
ends_stops nested (b ∷ after) e = ap not (and_right (not (b == 91) && not (b == 92)) (not (nested && b == 93)) (ap not e))

-- the text of the items that a text begins with parses back as these items
abbrev pub AreBack : (List ℕ → Read Item) → Bool → List ℕ → List Item × List ℕ → Type 0
AreBack read nested text x =
    record {
      reads : (m : ℕ) (after : List ℕ) → length (text_of x.0) ≤ m → ends nested after ≡ true
          → items_by read m nested (text_of x.0 ++ after) ≡ Ok (x.0, after);
      begins : stops nested text ≡ true → (after : List ℕ) → ends nested after ≡ true → stops nested (text_of x.0 ++ after) ≡ true;
    }

none_back : (read : List ℕ → Read Item) (nested : Bool) (text rest : List ℕ) → AreBack read nested text ([], rest)
none_back read nested text rest =
    record {
      reads = λ m after h e. ended read nested after m e;
      begins = λ h after e. ends_stops nested after e;
    }

more_back : (read : List ℕ → Read Item) (nested : Bool) (text : List ℕ) (x : Item × List ℕ) (y : List Item × List ℕ)
    → IsBack read nested text x → AreBack read nested x.1 y → AreBack read nested text (x.0 ∷ y.0, y.1)
more_back read nested text x y p q =
    let joined : (after : List ℕ) → (item_text x.0 ++ text_of y.0) ++ after ≡ item_text x.0 ++ (text_of y.0 ++ after) =
    append_assoc (item_text x.0) (text_of y.0) in
    let all = length-append (item_text x.0) (text_of y.0) in
    record {
      reads =
          λ m after h e. let rest : List ℕ = text_of y.0 ++ after in
          ap (items_by read m nested) (joined after)
          ∙ went_on read nested (item_text x.0 ++ rest) m (m - 1) x.0 rest (omega (arith, h, all, p.some)) (p.on rest)
          (p.reads rest (λ r. q.begins (p.apart r) after e))
          ∙ ap (before (x.0 ∷ [])) (q.reads (m - 1) after (omega (arith, h, all, p.some)) e);
      begins = λ h after e. ap (stops nested) (joined after) ∙ p.begins h (text_of y.0 ++ after);
    }

module _ (read : List ℕ → Read Item) (nested : Bool) (back : (text : List ℕ) → ends nested text ≡ false → IfOk (read text) (IsBack read nested text)) where
  items_after : (text : List ℕ) (x : Item × List ℕ) (r : Read (List Item)) → IsBack read nested text x → IfOk r (AreBack read nested x.1)
      → IfOk (before (x.0 ∷ []) r) (AreBack read nested text)
  items_after text x (Ok y) p q = more_back read nested text x y p q
  items_after text x (Err e) p q = tt

  items_on : (n : ℕ) (text : List ℕ) (c : Bool) (r : Read Item) → ((t : List ℕ) → IfOk (items_by read n nested t) (AreBack read nested t))
      → (c ≡ false → IfOk r (IsBack read nested text))
      → IfOk (if c then Ok ([], text) else (r >>= λ x. before (x.0 ∷ []) (items_by read n nested x.1))) (AreBack read nested text)
  items_on n text true r ih h = none_back read nested text text
  items_on n text false (Ok x) ih h = items_after text x (items_by read n nested x.1) (h refl) (ih x.1)
  items_on n text false (Err e) ih h = tt

  pub items_back : (n : ℕ) (text : List ℕ) → IfOk (items_by read n nested text) (AreBack read nested text)
  unfolding items_by
  items_back zero text = none_back read nested text text
  items_back (suc n) text = items_on n text (ends nested text) (read text) (items_back n) (back text)

-- Lists.

abbrev pub ListBack : (List ℕ → Read Item) → List Item → Type 0
ListBack read is = (opening : ℕ) (after : List ℕ) → list_by read opening (text_of is ++ 93 ∷ after) ≡ Ok (is, after)

listed : (read : List ℕ → Read Item) (text : List ℕ) (x : List Item × List ℕ) → AreBack read true text x → ListBack read x.0
listed read text x p opening after =
    let t : List ℕ = text_of x.0 ++ 93 ∷ after in
    let on : Read (List Item) → Read (List Item) = λ r. r >>= λ y. after_byte 93 (fault.UnclosedOpeningBracket opening) y.1 >>= λ rest. Ok (y.0, rest) in
    ap on (p.reads (length t) (93 ∷ after) (omega (arith, length-append (text_of x.0) (93 ∷ after))) refl)

abbrev pub list_item : List Item → Item
list_item is = group groups.List (items_of is)

-- the text of further lists parses back as the lists
abbrev pub GroupsBack : (List ℕ → Read Item) → List Item → Type 0
GroupsBack read ls =
    (opening m : ℕ) (after : List ℕ) → length (lists_of ls) ≤ m → next_list after ≡ None
    → by_option (Ok ([], lists_of ls ++ after)) (lists_by (list_by read opening) m) (next_list (lists_of ls ++ after)) ≡ Ok (ls, after)

-- the text of the lists of a choice parses back as the lists
abbrev pub ChoiceBack : (List ℕ → Read Item) → List Item → Type 0
ChoiceBack read ls =
    (after : List ℕ) → next_list after ≡ None
    → (y : List ℕ) × (lists_of ls ++ after ≡ 32 ∷ 91 ∷ y)
    × ((opening : ℕ) → lists_by (list_by read opening) (suc (length y)) y ≡ Ok (ls, after))

abbrev BothBack : (List ℕ → Read Item) → List Item → Type 0
BothBack read ls = GroupsBack read ls × ChoiceBack read ls

pub no_groups : (read : List ℕ → Read Item) → GroupsBack read []
no_groups read opening m after h e = ap (by_option (Ok ([], after)) (lists_by (list_by read opening) m)) e

option_before : (front : List Item) (rest : List ℕ) (f : List ℕ → Read (List Item)) (o : Option (List ℕ))
    → by_option (Ok (front, rest)) (λ inside. before front (f inside)) o ≡ before front (by_option (Ok ([], rest)) f o)
option_before front rest f (Some inside) = refl
option_before front rest f None = ap (λ (is : List Item). Ok (is, rest)) (sym (append-nil front))

-- one list and then others
pub lists_read : (read : List ℕ → Read Item) (is ls : List Item) → ListBack read is → GroupsBack read ls → (opening k : ℕ) (after : List ℕ)
    → length (lists_of ls) ≤ k → next_list after ≡ None
    → lists_by (list_by read opening) (suc k) (text_of is ++ 93 ∷ (lists_of ls ++ after)) ≡ Ok (list_item is ∷ ls, after)
unfolding lists_by
lists_read read is ls p q opening k after h e =
    let rest : List ℕ = lists_of ls ++ after in
    let more : List ℕ → Read (List Item) = lists_by (list_by read opening) k in
    let on : Read (List Item) → Read (List Item) =
    λ r. r >>= λ x. by_option (Ok (list_item x.0 ∷ [], x.1)) (λ inside. before (list_item x.0 ∷ []) (more inside)) (next_list x.1) in
    ap on (p opening rest) ∙ option_before (list_item is ∷ []) rest more (next_list rest) ∙ ap (before (list_item is ∷ [])) (q opening k after h e)

pub opens_list : (t : List ℕ) → next_list (32 ∷ 91 ∷ t) ≡ Some t
unfolding next_list
opens_list t = refl

one_list : (read : List ℕ → Read Item) (is ls : List Item) → ListBack read is → GroupsBack read ls → BothBack read (list_item is ∷ ls)
one_list read is ls p q =
    let body : List ℕ → List ℕ = λ after. (text_of is ++ 93 ∷ lists_of ls) ++ after in
    let joined : (after : List ℕ) → body after ≡ text_of is ++ 93 ∷ (lists_of ls ++ after) = append_assoc (text_of is) (93 ∷ lists_of ls) in
    let inside = length-append (text_of is) (93 ∷ lists_of ls) in (
      λ opening m after h e. let m1 : m ≡ suc (m - 1) = omega (arith, h) in
          let small : length (lists_of ls) ≤ m - 1 = omega (arith, h, inside) in
          let list = list_by read opening in
          ap (by_option (Ok ([], 32 ∷ 91 ∷ body after)) (lists_by list m)) (opens_list (body after))
          ∙ ap (λ (k : ℕ). lists_by list k (body after)) m1 ∙ ap (lists_by list (suc (m - 1))) (joined after)
          ∙ lists_read read is ls p q opening (m - 1) after small e,
      λ after e. (
        body after,
        refl,
        λ opening. ap (lists_by (list_by read opening) (suc (length (body after)))) (joined after)
            ∙ lists_read read is ls p q opening (length (body after)) after
            (omega (arith, inside, length-append (text_of is ++ 93 ∷ lists_of ls) after)) e,
      ),
    )

module _ (read : List ℕ → Read Item) (back : (text : List ℕ) → ends true text ≡ false → IfOk (read text) (IsBack read true text)) where
  abbrev IsListBack : List Item × List ℕ → Type 0
  IsListBack x = ListBack read x.0

  abbrev AreGroupsBack : List Item × List ℕ → Type 0
  AreGroupsBack x = GroupsBack read x.0

  abbrev AreBothBack : List Item × List ℕ → Type 0
  AreBothBack x = BothBack read x.0

  shut : (is : List Item) (r : Result (List ℕ) Fault) → ListBack read is → IfOk (r >>= λ rest. Ok (is, rest)) IsListBack
  shut is (Ok rest) p = p
  shut is (Err e) p = tt

  list_on : (opening : ℕ) (text : List ℕ) (r : Read (List Item)) → IfOk r (AreBack read true text)
      → IfOk (r >>= λ x. after_byte 93 (fault.UnclosedOpeningBracket opening) x.1 >>= λ rest. Ok (x.0, rest)) IsListBack
  list_on opening text (Ok x) p = shut x.0 (after_byte 93 (fault.UnclosedOpeningBracket opening) x.1) (listed read text x p)
  list_on opening text (Err e) p = tt

  pub list_back : (opening : ℕ) (text : List ℕ) → IfOk (list_by read opening text) IsListBack
  list_back opening text = list_on opening text (items_by read (length text) true text) (items_back read true back (length text) text)

  lists_after : (is : List Item) (r : Read (List Item)) → ListBack read is → IfOk r AreGroupsBack → IfOk (before (list_item is ∷ []) r) AreBothBack
  lists_after is (Ok y) p q = one_list read is y.0 p q
  lists_after is (Err e) p q = tt

  next_on : (x : List Item × List ℕ) (f : List ℕ → Read (List Item)) (o : Option (List ℕ)) → ListBack read x.0 → ((t : List ℕ) → IfOk (f t) AreGroupsBack)
      → IfOk (by_option (Ok (list_item x.0 ∷ [], x.1)) (λ inside. before (list_item x.0 ∷ []) (f inside)) o) AreBothBack
  next_on x f None p ih = one_list read x.0 [] p (no_groups read)
  next_on x f (Some inside) p ih = lists_after x.0 (f inside) p (ih inside)

  lists_on : (f : List ℕ → Read (List Item)) (r : Read (List Item)) → IfOk r IsListBack → ((t : List ℕ) → IfOk (f t) AreGroupsBack)
      → IfOk (r >>= λ x. by_option (Ok (list_item x.0 ∷ [], x.1)) (λ inside. before (list_item x.0 ∷ []) (f inside)) (next_list x.1)) AreBothBack
  lists_on f (Ok x) p ih = next_on x f (next_list x.1) p ih
  lists_on f (Err e) p ih = tt

  only_groups : (r : Read (List Item)) → IfOk r AreBothBack → IfOk r AreGroupsBack
  only_groups (Ok x) p = p.0
  only_groups (Err e) p = tt

  only_choice : (r : Read (List Item)) → IfOk r AreBothBack → IfOk r (λ x. ChoiceBack read x.0)
  only_choice (Ok x) p = p.1
  only_choice (Err e) p = tt

  first_back : (opening n : ℕ) (text : List ℕ) → ((t : List ℕ) → IfOk (lists_by (list_by read opening) n t) AreGroupsBack)
      → IfOk (lists_by (list_by read opening) (suc n) text) AreBothBack
  unfolding lists_by
  first_back opening n text ih = lists_on (lists_by (list_by read opening) n) (list_by read opening text) (list_back opening text) ih

  lists_back : (opening n : ℕ) (text : List ℕ) → IfOk (lists_by (list_by read opening) n text) AreGroupsBack
  unfolding lists_by
  lists_back opening zero text = no_groups read
  lists_back opening (suc n) text =
      only_groups (lists_by (list_by read opening) (suc n) text) (first_back opening n text (lists_back opening n))

  pub choice_back : (opening n : ℕ) (text : List ℕ) → IfOk (lists_by (list_by read opening) (suc n) text) (λ x. ChoiceBack read x.0)
  choice_back opening n text =
      only_choice (lists_by (list_by read opening) (suc n) text) (first_back opening n text (lists_back opening n))
