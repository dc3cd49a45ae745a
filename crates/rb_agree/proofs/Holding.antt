-- What the parts of a leaf hold of an open position, counted by runs; and the paths that items name.
use Rattle.std.proofs.Common.{◌≡◌, ℕ, ◌+◌, ◌<◌, List, [], ◌∷◌, ◌++◌, map, Bool, true, false, Option, Some, None, Result, IfOk, refl, sym, ap, subst, ◌∙◌, arith}
use Rattle.std.specs.Prelude.{◌&&◌, ◌==◌, leb, ltb, sum, MatchOption, if◌then◌else◌}
use Rattle.std.specs.List.{flat_map}
use Rattle.std.proofs.lemmas.List.Sums.{sum_by-cons}
use Rattle.std.proofs.lemmas.Result.{IfOk-weaker}
use Rattle.rb_core.specs.declared.types.DataDecl.{DataDecl}
use Rattle.rb_core.specs.declared.types.Ty.{Ty}
use Rattle.rb_core.specs.declared.types.Ty.TheVariants.{Int, Named}
use Rattle.rb_core.specs.declared.program.Program.{Program}
use Rattle.rb_layout.specs.declared.layout.Leaf.{Leaf}
use Rattle.rb_layout.specs.declared.layout.Block.{Block}
use Rattle.rb_layout.specs.declared.layout.FlatWord.{FlatWord}
use Rattle.rb_layout.specs.declared.layout.Part.{Part}
use Rattle.rb_layout.specs.declared.layout.Kind.{Kind}
use Rattle.rb_layout.specs.declared.layout.Kind.TheVariants.{Const, Bits, Word, Pointer}
use Rattle.rb_layout.specs.declared.evidence.Why.{Why}
use Rattle.rb_layout.specs.declared.evidence.Why.TheVariants.{NotHeld, HeldTwice, NotOpen}
use Rattle.rb_layout.specs.Positions.{Open, open_positions}
use Rattle.rb_layout.specs.Flattening.{same_path, IsOpenIn}
use Rattle.rb_layout.specs.Items.{Item, WrittenPart, content_paths, item_paths, paths_of}
use Rattle.rb_layout.specs.A6.{FailsHeld, HoldsEach, HoldsOnce, units_of, holds_unit, times_held, times_in_part, times_in_word, times_in_block}
use Rattle.rb_agree.specs.declared.runs.Run.{Run}
use Rattle.rb_agree.specs.declared.items.Written.{Written}
use Rattle.rb_agree.specs.declared.items.Item as D
use Rattle.rb_layout.specs.declared.opens.OpenPosition.{OpenPosition}
use Rattle.rb_layout.specs.Opens.{open_at, opens_at}
use Rattle.rb_agree.specs.Written.{shown_item, shown_items, shown_part}
use Rattle.rb_agree.specs.Lists.{SomeOf}
use Rattle.rb_agree.specs.inner.Lists.{EachOf, FindsIn}
use Rattle.rb_agree.specs.inner.Held.{AreOnce, FailsEach, FailsPath, FailsPlace, FailsUnits, HoldsPlace, IsOpenPath, block_runs, kind_runs, leaf_runs, part_paths, part_runs, run_if, times, word_runs}
use Rattle.rb_agree.proofs.Lists.{each-first, each-map, each-none, some-first, some-map}

none_more : (n : ℕ) → n + 0 ≡ n
none_more n = omega arith

none_before : (n : ℕ) → 0 + n ≡ n
none_before n = omega arith

-- a run of one unit has it alone
one_unit : (j i : ℕ) → (leb j i && ltb i (j + 1)) ≡ (j == i)
one_unit j i = grind arith

module _ (path : List ℕ) (i : ℕ) where
  run_once : (b : Bool) (a l : ℕ) → times (run_if b a l) i ≡ (if b && (leb a i && ltb i (a + l)) then 1 else 0)
  run_once true a l = none_more (if leb a i && ltb i (a + l) then 1 else 0)
  run_once false a l = refl

  times-kind : (ty : Ty) (l : ℕ) (kind : Kind) → times (kind_runs ty path l kind) i ≡ (if holds_unit ty path i l kind then 1 else 0)
  times-kind (Int bits) l (Const c) = refl
  times-kind (Int bits) l (Bits p a) = run_once (same_path p path) a l
  times-kind (Int bits) l (Word p j) = refl
  times-kind (Int bits) l (Pointer align b) = refl
  times-kind (Named s) l (Const c) = refl
  times-kind (Named s) l (Bits p a) = refl
  times-kind (Named s) l (Word p j) = run_once (same_path p path) j 1 ∙ ap (λ b. if same_path p path && b then 1 else 0) (one_unit j i)
  times-kind (Named s) l (Pointer align b) = refl

  times-append : (xs ys : List Run) → times (xs ++ ys) i ≡ times xs i + times ys i
  times-append [] ys = sym (none_before (times ys i))
  times-append (x ∷ xs) ys = let rest = times-append xs ys in omega (arith, rest)

  times-flat : {A : Type 0} (f : A → List Run) (g : A → ℕ) → ((x : A) → times (f x) i ≡ g x) → (xs : List A) → times (flat_map f xs) i ≡ sum (map g xs)
  times-flat f g each [] = refl
  times-flat f g each (x ∷ xs) =
      let here = each x in
      let rest = times-flat f g each xs in
      let both = times-append (f x) (flat_map f xs) in
      let added = sum_by-cons (λ n. n) (g x) (map g xs) in
      omega (arith, here, rest, both, added)

  module _ (ty : Ty) where
    times-part : (p : Part) → times (part_runs ty path p) i ≡ times_in_part ty path i p
    times-part p = times-kind ty p.l p.kind

    times-word : (f : FlatWord) → times (word_runs ty path f) i ≡ times_in_word ty path i f
    times-word f = times-flat (part_runs ty path) (times_in_part ty path i) times-part f.parts

    times-block : (b : Block) → times (block_runs ty path b) i ≡ times_in_block ty path i b
    times-block b = times-flat (word_runs ty path) (times_in_word ty path i) times-word b.words

    pub times-leaf : (leaf : Leaf) → times (leaf_runs leaf ty path) i ≡ times_held leaf ty path i
    times-leaf leaf =
        let root = times-flat (word_runs ty path) (times_in_word ty path i) times-word leaf.root in
        let blocks = times-flat (block_runs ty path) (times_in_block ty path i) times-block leaf.blocks in
        let both = times-append (flat_map (word_runs ty path) leaf.root) (flat_map (block_runs ty path) leaf.blocks) in
        omega (arith, root, blocks, both)

-- Paths -----------------------------------------------------------------------------------------------

abbrev pub paths_in : D.Item → List (List ℕ)
paths_in item = item_paths (shown_item item)

pub all-paths : (items : List D.Item) → flat_map paths_in items ≡ paths_of (shown_items items)
all-paths [] = refl
all-paths (x ∷ items) = ap (λ (ps : List (List ℕ)). paths_in x ++ ps) (all-paths items)

pub word-paths : (parts : List Written) → flat_map part_paths parts ≡ flat_map (λ (p : WrittenPart). content_paths p.content) (map shown_part parts)
word-paths [] = refl
word-paths (x ∷ parts) = ap (λ (ps : List (List ℕ)). part_paths x ++ ps) (word-paths parts)

pub where-none : (r : Option Why) (P : Type 0) (Q : Why → Type 0) → MatchOption r P Q → r ≡ None → P
where-none r P Q h none = subst (λ (x : Option Why). MatchOption x P Q) none h

module _ (opens : List Open) where
  abbrev Found : List (List ℕ) → Option Why → Type 0
  Found paths r = FindsIn (IsOpenPath opens) (FailsPath opens) paths r

  abbrev OfPath : List ℕ → Option Why → Type 0
  OfPath path r = MatchOption r (IsOpenPath opens path) (FailsPath opens path)

  one-path : (path : List ℕ) (r : Option Why) → OfPath path r → Found (path ∷ []) r
  one-path path None h = each-first (IsOpenPath opens) path [] h (each-none (IsOpenPath opens))
  one-path path (Some why) h = some-first (λ (q : List ℕ). FailsPath opens q why) path [] h

  pub path-found : {E : Type 0} (path : List ℕ) (paths : List (List ℕ)) → paths ≡ path ∷ [] → (r : Result (Option Why) E) → IfOk r (OfPath path) → IfOk r (Found paths)
  path-found path paths is r h =
      IfOk-weaker r (OfPath path) (Found paths) (λ x k. subst (λ (ps : List (List ℕ)). Found ps x) (sym is) (one-path path x k)) h

  pub paths-found : {E : Type 0} (xs ys : List (List ℕ)) → xs ≡ ys → (r : Result (Option Why) E) → IfOk r (Found xs) → IfOk r (Found ys)
  paths-found xs ys is r h = subst (λ (ps : List (List ℕ)). IfOk r (Found ps)) is h

-- Positions -------------------------------------------------------------------------------------------

module _ (p : Program) (leaf : Leaf) where
  units-fail : (o : Open) (runs : List Run) (n : ℕ) → runs ≡ leaf_runs leaf o.ty o.path → n ≡ units_of p o.ty → (why : Why) → FailsUnits o.path runs n why → FailsPlace p leaf o why
  units-fail o runs n is all (NotHeld q j) h = (
    h.2.0,
    subst (λ m. j < m) all (subst (λ m. m < n) (sym h.2.1) h.1),
    sym (times-leaf o.path j o.ty leaf) ∙ ap (λ (rs : List Run). times rs j) (sym is) ∙ ap (λ m. times runs m) h.2.1 ∙ h.2.2,
  )
  units-fail o runs n is all (HeldTwice q j) h = (
    h.2.0,
    subst (λ m. j < m) all (subst (λ m. m < n) (sym h.2.1) h.1),
    subst (λ m. 1 < m) (ap (λ m. times runs m) (sym h.2.1) ∙ ap (λ (rs : List Run). times rs j) is ∙ times-leaf o.path j o.ty leaf) h.2.2,
  )
  units-fail o runs n is all why h = absurd h.2

  units-hold : (o : Open) (runs : List Run) (n : ℕ) → runs ≡ leaf_runs leaf o.ty o.path → n ≡ units_of p o.ty → (r : Option Why)
      → MatchOption r (AreOnce runs n) (FailsUnits o.path runs n) → MatchOption r (HoldsPlace p leaf o) (FailsPlace p leaf o)
  units-hold o runs n is all None once = λ i lt.
      sym (times-leaf o.path i o.ty leaf) ∙ ap (λ (rs : List Run). times rs i) (sym is) ∙ once i (subst (λ m. i < m) (sym all) lt)
  units-hold o runs n is all (Some why) h = units-fail o runs n is all why h

  pub place-found : {E : Type 0} (o : Open) (runs : List Run) (n : ℕ) → runs ≡ leaf_runs leaf o.ty o.path → n ≡ units_of p o.ty → (r : Result (Option Why) E)
      → IfOk r (λ x. MatchOption x (AreOnce runs n) (FailsUnits o.path runs n)) → IfOk r (λ x. MatchOption x (HoldsPlace p leaf o) (FailsPlace p leaf o))
  place-found o runs n is all r h =
      IfOk-weaker r (λ x. MatchOption x (AreOnce runs n) (FailsUnits o.path runs n)) (λ x. MatchOption x (HoldsPlace p leaf o) (FailsPlace p leaf o)) (units-hold o runs n is all) h

  abbrev pub ShownHolds : OpenPosition → Type 0
  ShownHolds place = HoldsPlace p leaf (open_at place)

  abbrev pub ShownFails : OpenPosition → Why → Type 0
  ShownFails place why = FailsPlace p leaf (open_at place) why

  all-hold : (ps : List OpenPosition) → opens_at ps ≡ open_positions p.types leaf.prov → (r : Option Why) → FindsIn ShownHolds ShownFails ps r → MatchOption r (HoldsEach p leaf) (FailsEach p leaf)
  all-hold ps is None h = λ k o i e lt.
      subst (λ (os : List Open). EachOf (HoldsPlace p leaf) os) is (each-map open_at (HoldsPlace p leaf) ps h) k o e i lt
  all-hold ps is (Some why) h =
      subst (λ (os : List Open). SomeOf (λ (o : Open). FailsPlace p leaf o why) os) is (some-map open_at (λ (o : Open). FailsPlace p leaf o why) ps h)

  pub each-held : {E : Type 0} (ps : List OpenPosition) → opens_at ps ≡ open_positions p.types leaf.prov → (r : Result (Option Why) E) → IfOk r (FindsIn ShownHolds ShownFails ps)
      → IfOk r (λ x. MatchOption x (HoldsEach p leaf) (FailsEach p leaf))
  each-held ps is r h = IfOk-weaker r (FindsIn ShownHolds ShownFails ps) (λ x. MatchOption x (HoldsEach p leaf) (FailsEach p leaf)) (all-hold ps is) h

  module _ (items : List Item) where
    abbrev OpensIn : List DataDecl → List Open
    OpensIn types = open_positions types leaf.prov

    other-fails : (why : Why) → SomeOf (λ (path : List ℕ). FailsPath (OpensIn p.types) path why) (paths_of items) → FailsHeld p leaf items why
    other-fails (NotOpen q) h = (
      (h.0, h.2 ∙ ap (λ (x : List ℕ). Some x) (sym h.3.0)),
      subst (λ (x : List ℕ). IsOpenIn (OpensIn p.types) x → ⊥) (sym h.3.0) h.3.1,
    )
    other-fails why h = absurd h.3

    place-fails : (why : Why) → FailsEach p leaf why → FailsHeld p leaf items why
    place-fails (NotHeld q j) h = (
      record { number = h.0; place = h.1; is_open = h.2; is_path = sym h.3.0; is_unit = h.3.1 },
      ap (λ (x : List ℕ). times_held leaf h.1.ty x j) h.3.0 ∙ h.3.2,
    )
    place-fails (HeldTwice q j) h = (
      record { number = h.0; place = h.1; is_open = h.2; is_path = sym h.3.0; is_unit = h.3.1 },
      subst (λ (x : List ℕ). 1 < times_held leaf h.1.ty x j) (sym h.3.0) h.3.2,
    )
    place-fails why h = absurd h.3

    abbrev OtherFound : List DataDecl → Option Why → Type 0
    OtherFound types r = FindsIn (IsOpenPath (OpensIn types)) (FailsPath (OpensIn types)) (paths_of items) r

    pub other-found : (types : List DataDecl) (r : Option Why) (why : Why) → types ≡ p.types → OtherFound types r → r ≡ Some why → FailsHeld p leaf items why
    other-found types r why is h some =
        other-fails why (subst (λ (ts : List DataDecl). OtherFound ts (Some why)) is (subst (λ (x : Option Why). OtherFound types x) some h))

    with-places : (r : Option Why) → EachOf (IsOpenPath (OpensIn p.types)) (paths_of items) → MatchOption r (HoldsEach p leaf) (FailsEach p leaf) → MatchOption r (HoldsOnce p leaf items) (FailsHeld p leaf items)
    with-places None others each = record { each = each; no_other = others }
    with-places (Some why) others fails = place-fails why fails

    pub held-found : {E : Type 0} (types : List DataDecl) (s : Option Why) → types ≡ p.types → OtherFound types s → s ≡ None → (r : Result (Option Why) E)
        → IfOk r (λ x. MatchOption x (HoldsEach p leaf) (FailsEach p leaf)) → IfOk r (λ x. MatchOption x (HoldsOnce p leaf items) (FailsHeld p leaf items))
    held-found types s is h none r each =
        let others = subst (λ (ts : List DataDecl). OtherFound ts None) is (subst (λ (x : Option Why). OtherFound types x) none h) in
        IfOk-weaker r (λ x. MatchOption x (HoldsEach p leaf) (FailsEach p leaf)) (λ x. MatchOption x (HoldsOnce p leaf items) (FailsHeld p leaf items)) (λ x k. with-places x others k) each
