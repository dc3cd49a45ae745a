-- Frames: the names that they bind, and the scope that they open.
use Rattle.std.proofs.Common.{◌≡◌, ℕ, zero, suc, ◌+◌, ◌-◌, ◌<◌, ◌≤◌, Bool, true, false, cond, ◌||◌, Option, Some, None, is_some, List, [], ◌∷◌, ◌++◌, map, take, drop, length, get_or, reverse, refl, sym, ap, ◌∙◌, arith, add-one}
use Rattle.std.specs.Option.{option_or}
use Rattle.std.specs.List.{list_any, flat_map, AllByRecursion, IsDistinct}
use Rattle.std.specs.Map.{keys_of}
use Rattle.std.specs.Str.{bytes_eq}
use Rattle.std.specs.Cmp.Lexicographic.{bytes_decides}
use Rattle.std.proofs.lemmas.Cmp.{nat_list_eq_equiv}
use Rattle.std.proofs.lemmas.List.{reverse-append, append_assoc, length-append}
use Rattle.rb_syntax.specs.declared.tree.NameTree.{NameTree}
use Rattle.rb_syntax.specs.declared.tree.PatTree.{PatTree}
use Rattle.rb_syntax.specs.declared.tree.PatTree as P
use Rattle.rb_names.specs.declared.frame.Frame.{Frame}
use Rattle.rb_names.specs.Tables.{Name, Table, meaning}
use Rattle.rb_names.specs.Definitions.{numbered_names}
use Rattle.rb_names.specs.Scopes.{Scope, inside, names_in, with_name, with_names}
use Rattle.rb_names.specs.inner.Frames.{scope_of, with_binder_unless, with_binder, with_binders}
use Rattle.rb_names.proofs.ListLemmas.{drop-here}
use Rattle.rb_names.proofs.PatternEquations.{names-Con}
use Rattle.rb_names.proofs.ScopeLemmas.{option_or-none, lookup-append}

-- Tables from either end -------------------------------------------------------------------

module _ {K A : Type 0} (name_of : K → Name) (eq : K → K → Bool) (same : (k l : K) → eq k l ≡ bytes_eq (name_of k) (name_of l)) where
  none-later : (k : K) (q : Name) → q ≡ name_of k → (es : List (K × A)) → AllByRecursion (λ l. eq k l ≡ false) (keys_of es)
      → meaning (map (λ e. (name_of e.0, e.1)) es) q ≡ None
  none-later k q is [] h = refl
  none-later k q is (e ∷ es) h =
      let other : bytes_eq q (name_of e.0) ≡ false = ap (λ n. bytes_eq n (name_of e.0)) is ∙ sym (same k e.0) ∙ h.0 in
      rw other (none-later k q is es h.1)

  -- the last of a name is the first
  pub meaning-last : (es : List (K × A)) (q : Name) → IsDistinct eq (keys_of es)
      → meaning (map (λ e. (name_of e.0, e.1)) es) q ≡ meaning (reverse (map (λ e. (name_of e.0, e.1)) es)) q
  unfolding IsDistinct
  meaning-last [] q d = refl
  meaning-last (e ∷ es) q d =
      by (bytes_eq q (name_of e.0)) refl
      ∙ sym (ap (λ t. meaning t q) (reverse-append ((name_of e.0, e.1) ∷ []) (map (λ e. (name_of e.0, e.1)) es))
      ∙ lookup-append (bytes_eq q) (reverse (map (λ e. (name_of e.0, e.1)) es)) ((name_of e.0, e.1) ∷ [])
      ∙ ap (λ o. option_or o (meaning ((name_of e.0, e.1) ∷ []) q)) (sym (meaning-last es q d.1)))
    where
      by : (b : Bool) → bytes_eq q (name_of e.0) ≡ b
          → cond b (Some e.1) (meaning (map (λ e. (name_of e.0, e.1)) es) q) ≡ option_or (meaning (map (λ e. (name_of e.0, e.1)) es) q) (cond b (Some e.1) None)
      by true h = ap (λ o. option_or o (Some e.1)) (sym (none-later e.0 q ((bytes_decides q (name_of e.0)).0 h) es d.0))
      by false h = sym (option_or-none (meaning (map (λ e. (name_of e.0, e.1)) es) q))

pub meaning-none : {A : Type 0} (t : Table A) (q : Name) → length t ≡ 0 → None ≡ meaning (reverse t) q
meaning-none [] q e = refl
meaning-none (d ∷ t) q e = absurd (omega (arith, e))

-- The innermost binder -----------------------------------------------------------------------

take-here : {A : Type 0} (xs : List A) (i : ℕ) (x : A) → i < length xs → x ≡ get_or xs i x → take (suc i) xs ≡ take i xs ++ x ∷ []
take-here [] i x lt is = absurd (omega arith)
take-here (y ∷ xs) zero x lt is = rw is refl
take-here (y ∷ xs) (suc i) x lt is = ap (λ ys. y ∷ ys) (take-here xs i x (omega arith) is)

frame-first : (frames : List (Table ℕ)) (i : ℕ) (frame : Table ℕ) (q : Name) → i < length frames → frame ≡ get_or frames i frame
    → meaning (scope_of (reverse (take (suc i) frames))) q ≡ option_or (meaning (reverse frame) q) (meaning (scope_of (reverse (take i frames))) q)
frame-first frames i frame q lt is =
    ap (λ fs. meaning (scope_of (reverse fs)) q) (take-here frames i frame lt is)
    ∙ ap (λ fs. meaning (scope_of fs) q) (reverse-append (take i frames) (frame ∷ []))
    ∙ lookup-append (bytes_eq q) (reverse frame) (scope_of (reverse (take i frames)))

-- the innermost of the first i frames, and those round it
module _ (frames : List (Table ℕ)) (i : ℕ) (frame : Table ℕ) (q : Name) (some : 0 < i) (within : i ≤ length frames) (is : frame ≡ get_or frames (i - 1) frame) where
  frame-here : meaning (scope_of (reverse (take i frames))) q ≡ option_or (meaning (reverse frame) q) (meaning (scope_of (reverse (take (i - 1) frames))) q)
  frame-here =
      let e : i ≡ suc (i - 1) = omega (arith, some) in
      ap (λ k. meaning (scope_of (reverse (take k frames))) q) e ∙ frame-first frames (i - 1) frame q (omega (arith, some, within)) is

  pub found-here : (n : ℕ) → meaning (reverse frame) q ≡ Some n → meaning (scope_of (reverse (take i frames))) q ≡ Some n
  found-here n h = frame-here ∙ ap (λ o. option_or o (meaning (scope_of (reverse (take (i - 1) frames))) q)) h

  pub not-here : meaning (reverse frame) q ≡ None → meaning (scope_of (reverse (take (i - 1) frames))) q ≡ meaning (scope_of (reverse (take i frames))) q
  not-here h = sym (frame-here ∙ ap (λ o. option_or o (meaning (scope_of (reverse (take (i - 1) frames))) q)) h)

-- The names of one pattern or list -------------------------------------------------------------

-- names that are numbered from n on, and the number behind them
abbrev frame_with : Table ℕ → ℕ → Frame
frame_with t n = record { binders = t; next = n }

abbrev frame_of : ℕ → List Name → Frame
frame_of n names = frame_with (numbered_names n names) (n + length names)

knows-names : (n : ℕ) (names : List Name) (x : Name) → is_some (meaning (numbered_names n names) x) ≡ list_any (λ m. bytes_eq m x) names
knows-names n [] x = refl
knows-names n (m ∷ names) x =
    ap (λ b. is_some (cond b (Some n) (meaning (numbered_names (suc n) names) x))) (nat_list_eq_equiv.symm x m) ∙ by (bytes_eq m x) (knows-names (suc n) names x)
  where
    by : (b : Bool) → is_some (meaning (numbered_names (suc n) names) x) ≡ list_any (λ m. bytes_eq m x) names
        → is_some (cond b (Some n) (meaning (numbered_names (suc n) names) x)) ≡ (b || list_any (λ m. bytes_eq m x) names)
    by true h = refl
    by false h = h

numbered-append : (n : ℕ) (names : List Name) (x : Name) → numbered_names n (names ++ x ∷ []) ≡ numbered_names n names ++ (x, n + length names) ∷ []
numbered-append n [] x = ap (λ k. (x, k) ∷ []) (let e : n ≡ n + 0 = omega arith in e)
numbered-append n (m ∷ names) x =
    let e : suc n + length names ≡ n + suc (length names) = omega arith in
    ap (λ t. (m, n) ∷ t) (numbered-append (suc n) names x ∙ ap (λ k. numbered_names (suc n) names ++ (x, k) ∷ []) e)

next-number : (n : ℕ) (names : List Name) (x : Name) → suc (n + length names) ≡ n + length (names ++ x ∷ [])
next-number n names x = omega (arith, length-append names (x ∷ []))

with_binder-is : (n : ℕ) (names : List Name) (x : Name) → with_binder (frame_of n names) x ≡ frame_of n (with_name names x)
with_binder-is n names x = by (meaning (numbered_names n names) x) (knows-names n names x)
  where
    by : (o : Option ℕ) → is_some o ≡ list_any (λ m. bytes_eq m x) names → with_binder_unless (frame_of n names) x o ≡ frame_of n (with_name names x)
    by (Some k) h = rw (← h) refl
    by None h = rw (← h) (ap (λ t. frame_with t (suc (n + length names))) (sym (numbered-append n names x))
        ∙ ap (frame_with (numbered_names n (names ++ x ∷ []))) (next-number n names x))

with_binders-is : (n : ℕ) (xs names : List Name) → with_binders (frame_of n names) xs ≡ frame_of n (with_names names xs)
with_binders-is n [] names = refl
with_binders-is n (x ∷ xs) names = ap (λ f. with_binders f xs) (with_binder-is n names x) ∙ with_binders-is n xs (with_name names x)

inside-is : (names : List Name) (n : ℕ) (scope : Scope) → reverse (numbered_names n names) ++ scope ≡ inside names n scope
inside-is [] n scope = refl
inside-is (x ∷ xs) n scope =
    ap (λ t. t ++ scope) (reverse-append ((x, n) ∷ []) (numbered_names (suc n) xs)) ∙ append_assoc (reverse (numbered_names (suc n) xs)) ((x, n) ∷ []) scope
    ∙ inside-is xs (suc n) ((x, n) ∷ scope)

all-bound : (xs : List Name) (n : ℕ) (start : Frame) → start ≡ frame_with [] n → with_binders start xs ≡ frame_of n (with_names [] xs)
all-bound xs n start is =
    let e : n ≡ n + 0 = omega arith in
    ap (λ f. with_binders f xs) (is ∙ ap (frame_with []) e) ∙ with_binders-is n xs []

-- the scope that a frame opens, and the next binder's number in it
module _ (xs : List Name) (n : ℕ) (start frame : Frame) (new : start ≡ frame_with [] n) (is : frame ≡ with_binders start xs) where
  pub opened : (outer inner : List (Table ℕ)) → inner ≡ frame.binders ∷ outer → scope_of inner ≡ inside (with_names [] xs) n (scope_of outer)
  opened outer inner h =
      ap scope_of h ∙ ap (λ (f : Frame). reverse f.binders ++ scope_of outer) (is ∙ all-bound xs n start new) ∙ inside-is (with_names [] xs) n (scope_of outer)

  pub counted : frame.next ≡ n + length (with_names [] xs)
  counted = ap (λ (f : Frame). f.next) (is ∙ all-bound xs n start new)

-- the scope of one binder
pub one-inside : (name : Name) (var : ℕ) (outer inner : List (Table ℕ)) (binder : Table ℕ) → inner ≡ binder ∷ outer → binder ≡ (name, var) ∷ []
    → scope_of inner ≡ (name, var) ∷ scope_of outer
one-inside name var outer inner binder h is = ap scope_of h ∙ ap (λ t. reverse t ++ scope_of outer) is

-- The names in patterns ------------------------------------------------------------------------

with_binders-append : (frame : Frame) (xs ys : List Name) → with_binders frame (xs ++ ys) ≡ with_binders (with_binders frame xs) ys
with_binders-append frame [] ys = refl
with_binders-append frame (x ∷ xs) ys = with_binders-append (with_binder frame x) xs ys

module _ {A : Type 0} (names_of : A → List Name) where
  names_from : (ts : List A) (i : ℕ) (t : A) → i < length ts → t ≡ get_or ts i t → flat_map names_of (drop i ts) ≡ names_of t ++ flat_map names_of (drop (suc i) ts)
  names_from ts i t lt is = ap (flat_map names_of) (drop-here ts i t lt is)

  -- the names of one more
  pub binders-next : (ts : List A) (i : ℕ) (t : A) (frame new : Frame) → i < length ts → t ≡ get_or ts i t → new ≡ with_binders frame (names_of t)
      → with_binders new (flat_map names_of (drop (i + 1) ts)) ≡ with_binders frame (flat_map names_of (drop i ts))
  binders-next ts i t frame new lt is h =
      rw (add-one i) (ap (λ f. with_binders f (flat_map names_of (drop (suc i) ts))) h ∙ sym (with_binders-append frame (names_of t) _)
      ∙ ap (with_binders frame) (sym (names_from ts i t lt is)))

flat-map : {A B : Type 0} (f : A → List B) (xs : List A) → flat_map (λ ys. ys) (map f xs) ≡ flat_map f xs
flat-map f [] = refl
flat-map f (x ∷ xs) = ap (λ ys. f x ++ ys) (flat-map f xs)

pub binders-whole : (tree : PatTree) (at : ℕ) (name : NameTree) (ts trees : List PatTree) (frame new : Frame)
    → tree ≡ P.Con at name ts → trees ≡ ts → new ≡ with_binders frame (flat_map names_in trees) → new ≡ with_binders frame (names_in tree)
binders-whole tree at name ts trees frame new is same h =
    h ∙ ap (with_binders frame) (ap (flat_map names_in) same ∙ sym (flat-map names_in ts) ∙ sym (names-Con at name ts) ∙ ap names_in (sym is))
