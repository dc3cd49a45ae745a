-- Layouts of a file that was read are well numbered.
use Rattle.std.proofs.Common.{◌≡◌, ℕ, suc, ◌+◌, ◌^◌, ◌<◌, ◌≤◌, List, [], ◌∷◌, ◌++◌, map, length, Bool, true, nat_lt, Option, Some, None, Ok, refl, sym, ◌∙◌, ap, subst, arith}
use Rattle.std.proofs.lemmas.Bool.{and_parts, and_from}
use Rattle.std.proofs.lemmas.Grind.{common_steps}
use Rattle.std.proofs.lemmas.List.Sums.{sum_by-cons}
use Rattle.std.specs.List.{list_all, flat_map, sum_by}
use Rattle.rb_core.specs.declared.types.ConRef.{ConRef}
use Rattle.rb_core.specs.declared.types.DataDecl.{DataDecl}
use Rattle.rb_core.specs.declared.pattern.Pat.{Pat}
use Rattle.rb_core.specs.declared.layout_decl.Loc.{Loc}
use Rattle.rb_core.specs.declared.layout_decl.Step.{Step}
use Rattle.rb_core.specs.declared.layout_decl.LayItem.{LayItem}
use Rattle.rb_core.specs.declared.layout_decl.Arm.{Arm}
use Rattle.rb_core.specs.declared.layout_decl.LayTree.{LayTree}
use Rattle.rb_core.specs.declared.layout_decl.LayTree as L
use Rattle.rb_core.specs.declared.layout_decl.LayTree.TheOpen as T
use Rattle.rb_core.specs.declared.layout_decl.LayTree.TheFolds.{fold-LayTree, fold-Arm, fold-roll-LayTree, fold_out-Arm}
use Rattle.rb_core.specs.declared.layout_decl.LayoutDecl.{LayoutDecl}
use Rattle.rb_core.specs.Layouts.{WrittenLeaf, leaves, leaves_under, leaves_step, arm_leaves, provenances, is_short, leaf_is_short, tree_step, arm_is_short}
use Rattle.rb_core.specs.WellNumbered.{is_constructor, is_between, provenance_is_numbered, layout_is_numbered}
use Rattle.rb_syntax.specs.declared.token.Token.TheVariants as tok
use Rattle.rb_syntax.specs.declared.token.ReservedWord.TheVariants as word
use Rattle.rb_syntax.specs.declared.token.Symbol.TheVariants as symbol
use Rattle.rb_syntax.specs.declared.tree.PatTree.{PatTree}
use Rattle.rb_syntax.specs.declared.tree.ArmTree.{ArmTree}
use Rattle.rb_syntax.specs.declared.tree.SplitTree.{SplitTree}
use Rattle.rb_syntax.specs.declared.tree.SplitTree as S
use Rattle.rb_syntax.specs.declared.tree.LayoutTree.{LayoutTree}
use Rattle.rb_syntax.specs.Written.{Written, Writing, token, number, node, tokens_in, each, some_with}
use Rattle.rb_syntax.specs.Spelling.{comma, prov_written, loc_step_written, loc_written, lay_item_written, split_written, arm_written, width_written, layout_written}
use Rattle.rb_syntax.proofs.SpellingLemmas.{arm-is, split-Leaf, split-None, split-Some}
use Rattle.rb_names.specs.declared.tables.Tables.{Tables}
use Rattle.rb_names.specs.Tables.{Name, meaning}
use Rattle.rb_names.specs.Numbering.{Resolved, all_of, name_found, numbered_pattern, numbered_else, numbered_split, numbered_layout}
use Rattle.rb_names.specs.inner.Parts.{numbered_arm}
use Rattle.rb_names.proofs.PartLemmas.{numbered-Leaf, numbered-Split, numbered-arm}
use Rattle.rb_names.proofs.Rising.{Right}
use Rattle.rb_names.proofs.Inverting.{then-ok, known-ok, ok-is}
use Rattle.rb_core.proofs.LayoutInduction as lay-items
use Rattle.rb_syntax.proofs.SplitInduction as induction
use Rattle.rb_names.proofs.WellLists.{Each, each-of, each-passes, length-of-map, off-token, off-number, off-node, right-as, Fine, is-as, are-each, are-some}
use Rattle.rb_names.proofs.WellProvenances.{at_level-of, short-of, provenance-well}
use Rattle.rb_names.proofs.WellLeaves.{leaf-well}

-- Trees in layers.

abbrev pub tree_short : LayTree → Bool
tree_short = fold-LayTree Bool Bool tree_step arm_is_short

abbrev pub under_short : Arm → Bool
under_short = fold-Arm Bool Bool tree_step arm_is_short

leaves-Leaf : (at : ℕ) (p : Pat) (items : List LayItem) → leaves (L.Leaf at p items) ≡ record { provenance = p; items = items } ∷ []
unfolding L.roll-LayTree denote.Hole.Carrier.roll
leaves-Leaf at p items = fold-roll-LayTree (List WrittenLeaf) (List WrittenLeaf) leaves_step arm_leaves (T.Leaf at p items)

leaves-None : (loc : Loc) (arms : List Arm) → leaves (L.Split loc arms None) ≡ flat_map (λ ls. ls) (map leaves_under arms) ++ []
unfolding L.roll-LayTree denote.Hole.Carrier.roll
leaves-None loc arms = fold-roll-LayTree (List WrittenLeaf) (List WrittenLeaf) leaves_step arm_leaves (T.Split loc arms None)

leaves-Some : (loc : Loc) (arms : List Arm) (other : LayTree) → leaves (L.Split loc arms (Some other)) ≡ flat_map (λ ls. ls) (map leaves_under arms) ++ leaves other
unfolding L.roll-LayTree denote.Hole.Carrier.roll
leaves-Some loc arms other = fold-roll-LayTree (List WrittenLeaf) (List WrittenLeaf) leaves_step arm_leaves (T.Split loc arms (Some other))

leaves-arm : (a : Arm) → leaves_under a ≡ leaves a.under
leaves-arm a = fold_out-Arm (List WrittenLeaf) (List WrittenLeaf) leaves_step arm_leaves a

pub short-Leaf : (at : ℕ) (p : Pat) (items : List LayItem) → tree_short (L.Leaf at p items) ≡ leaf_is_short items
unfolding L.roll-LayTree denote.Hole.Carrier.roll
short-Leaf at p items = fold-roll-LayTree Bool Bool tree_step arm_is_short (T.Leaf at p items)

pub short-None : (loc : Loc) (arms : List Arm) → tree_short (L.Split loc arms None) ≡ tree_step (T.Split loc (map under_short arms) None)
unfolding L.roll-LayTree denote.Hole.Carrier.roll
short-None loc arms = fold-roll-LayTree Bool Bool tree_step arm_is_short (T.Split loc arms None)

short-Some : (loc : Loc) (arms : List Arm) (other : LayTree) → tree_short (L.Split loc arms (Some other)) ≡ tree_step (T.Split loc (map under_short arms) (Some (tree_short other)))
unfolding L.roll-LayTree denote.Hole.Carrier.roll
short-Some loc arms other = fold-roll-LayTree Bool Bool tree_step arm_is_short (T.Split loc arms (Some other))

pub short-arm : (a : Arm) → under_short a ≡ tree_short a.under
short-arm a = fold_out-Arm Bool Bool tree_step arm_is_short a

-- Lists of leaves.

length-two : {A : Type 0} (xs ys : List A) → length (xs ++ ys) ≡ length xs + length ys
length-two [] ys = omega arith
length-two (x ∷ xs) ys = omega (arith, length-two xs ys)

all-two : {A B : Type 0} (f : A → B) (test : B → Bool) (xs ys : List A) → list_all test (map f xs) ≡ true → list_all test (map f ys) ≡ true
    → list_all test (map f (xs ++ ys)) ≡ true
all-two f test [] ys h k = k
all-two f test (x ∷ xs) ys h k = rw (parts.0) (all-two f test xs ys parts.1 k) where
  parts : (test (f x) ≡ true) × (list_all test (map f xs) ≡ true)
  parts = and_parts _ _ h

abbrev leaf_count : LayTree → ℕ
leaf_count tree = length (leaves tree)

abbrev arm_count : Arm → ℕ
arm_count a = leaf_count a.under

arms-count : (arms : List Arm) → length (flat_map (λ (ls : List WrittenLeaf). ls) (map leaves_under arms)) ≡ sum_by arm_count arms
arms-count [] = refl
arms-count (a ∷ arms) = omega (
  arith,
  arms-count arms,
  sum_by-cons arm_count a arms,
  ap (λ (ls : List WrittenLeaf). length ls) (leaves-arm a),
  length-two (leaves_under a) (flat_map (λ (ls : List WrittenLeaf). ls) (map leaves_under arms)),
)

module _ (total : ℕ) (small : total < 2 ^ 32) (types : List DataDecl) (t : Tables)
    (known_con : (name : Name) (c : ConRef) → meaning t.constructors name ≡ Some c → is_constructor types c ≡ true) where
  -- Where a split looks.

  abbrev any_step : Step → Resolved Step
  any_step s = Ok s

  abbrev NoClaim : Step → Type 0
  NoClaim s = Unit {0}

  step-fine : (s : Step) → Fine total Step Step any_step (λ x. 0) NoClaim loc_step_written s
  step-fine s rest r = record {
    right = record { formed = r.formed; numbers = r.numbers; fits = omega (arith, r.fits) };
    shorter = omega arith;
    well = λ x e. (omega arith, tt);
  }

  steps-fine : (ss : List Step) → Each (Fine total Step Step any_step (λ x. 0) NoClaim loc_step_written) ss
  steps-fine [] = tt
  steps-fine (s ∷ ss) = (step-fine s, steps-fine ss)

  record Place (loc : Loc) (rest : List Written) : Type 0 where
    right : Right total rest
    shorter : length (tokens_in rest) < length (tokens_in (loc_written loc rest))
    short : is_short loc.steps ≡ true

  place : (loc : Loc) (rest : List Written) → Right total (loc_written loc rest) → Place loc rest
  place loc rest r =
      let ws : List Written = each (map loc_step_written loc.steps) rest in
      let s : Right total ws = record { formed = r.formed; numbers = r.numbers; fits = omega (arith, r.fits) } in
      let a = are-each total Step Step any_step (λ x. 0) NoClaim loc_step_written loc.steps (steps-fine loc.steps) rest s in record {
        right = a.right;
        shorter = omega (arith, a.count);
        short = short-of total small loc.steps (omega (arith, a.count, s.fits));
      }

  -- Trees.

  record IsTree (tree : LayTree) : Type 0 where
    proven : list_all (provenance_is_numbered types) (provenances tree) ≡ true
    short : tree_short tree ≡ true

  abbrev IsArm : Arm → Type 0
  IsArm a = IsTree a.under

  abbrev tree_at : ℕ → SplitTree → Writing
  tree_at l s rest = split_written s l rest

  abbrev arm_at : ℕ → ArmTree → Writing
  arm_at l a rest = arm_written a l rest

  abbrev TreeFine : SplitTree → Type 0
  TreeFine s = (l : ℕ) → Fine total SplitTree LayTree (numbered_split t) leaf_count IsTree (tree_at l) s

  abbrev ArmsOf : ℕ → ArmTree → Type 0
  ArmsOf l = Fine total ArmTree Arm (numbered_arm t) arm_count IsArm (arm_at l)

  arm-fine : (l : ℕ) (a : ArmTree) → TreeFine a.under → ArmsOf l a
  arm-fine l a h rest r =
      let s = right-as total (arm-is a l rest) r in
      let x = h l rest (off-token total _ _ (off-token total _ _ s)) in
      is-as total ArmTree Arm (numbered_arm t) arm_count IsArm (arm_at l) a rest _ (arm-is a l rest) x.right (omega (arith, x.shorter))
      (λ b e.
      let f = then-ok (numbered_split t a.under) _ b (sym (numbered-arm t a) ∙ e) in
      let v = x.well f.0 f.1 in
      rw (← ok-is (record { literal = a.literal; under = f.0 }) b f.2) (omega (arith, v.0), v.1))

  each-arm : (l : ℕ) (arms : List ArmTree) → lay-items.Each (λ (a : ArmTree). TreeFine a.under) arms → Each (ArmsOf l) arms
  each-arm l [] h = tt
  each-arm l (a ∷ arms) h = (arm-fine l a h.0, each-arm l arms h.1)

  arms-proven : (arms : List Arm) → Each IsArm arms
      → list_all (provenance_is_numbered types) (map (λ (w : WrittenLeaf). w.provenance) (flat_map (λ (ls : List WrittenLeaf). ls) (map leaves_under arms))) ≡ true
  arms-proven [] h = refl
  arms-proven (a ∷ arms) h = all-two (λ (w : WrittenLeaf). w.provenance) (provenance_is_numbered types) (leaves_under a) _
      (rw (leaves-arm a) (h.0.proven)) (arms-proven arms h.1)

  arms-short : (arms : List Arm) → length arms ≤ total → Each IsArm arms → (is_short (map under_short arms) ≡ true) × (list_all (λ a. a) (map under_short arms) ≡ true)
  arms-short arms h g = (
    short-of total small (map under_short arms) (omega (arith, h, length-of-map under_short arms)),
    each-passes under_short (λ a. a) arms (each-of IsArm (λ a. under_short a ≡ true) (λ a b. short-arm a ∙ b.short) arms g),
  )

  tree-leaf : (at : ℕ) (prov : PatTree) (items : List LayItem) → TreeFine (S.Leaf at prov items)
  tree-leaf at prov items l rest r =
      let close : List Written = token (tok.Symbol symbol.CloseBrace) ∷ rest in
      let inner : List Written = some_with comma (map (λ (i : LayItem). lay_item_written i (suc l)) items) close in
      let behind : List Written = token (tok.Symbol symbol.Colon) ∷ token (tok.Symbol symbol.OpenBrace) ∷ inner in
      let vs : List Written = node l ∷ number at ∷ prov_written prov (suc l) behind in
      let s : Right total vs = right-as total (split-Leaf at prov items l rest) r in
      let p = provenance-well total small types t known_con prov (suc l) behind (off-number total _ _ (off-node total _ _ s)) in
      let i = leaf-well total small (suc l) items close (off-token total _ _ (off-token total _ _ p.right)) in
      is-as total SplitTree LayTree (numbered_split t) leaf_count IsTree (tree_at l) (S.Leaf at prov items) rest vs (split-Leaf at prov items l rest)
      (off-token total _ _ i.right) (omega (arith, p.shorter, i.count))
      (λ b e.
      let f = then-ok (numbered_pattern t [] prov) _ b (sym (numbered-Leaf t at prov items) ∙ e) in
      let v = p.well f.0 f.1 in
      rw (← ok-is (L.Leaf at f.0 items) b f.2) (
        rw (leaves-Leaf at f.0 items) (omega (arith, p.shorter, i.count)),
        record { proven = rw (leaves-Leaf at f.0 items) (and_from _ _ v.1 refl); short = short-Leaf at f.0 items ∙ i.short },
      ))

  -- what stands in front of the arms
  abbrev opened : ℕ → Loc → List Written → List Written
  opened l loc ws = node l ∷ token (tok.Reserved word.Split) ∷ loc_written loc (token (tok.Symbol symbol.OpenBrace) ∷ ws)

  split-none : (loc : Loc) (arms : List ArmTree) → lay-items.Each (λ (a : ArmTree). TreeFine a.under) arms → TreeFine (S.Split loc arms None)
  split-none loc arms h l rest r =
      let close : List Written = token (tok.Symbol symbol.CloseBrace) ∷ rest in
      let inner : List Written = each (map (arm_at (suc l)) arms) close in
      let e : split_written (S.Split loc arms None) l rest ≡ opened l loc inner =
      split-None loc arms l rest ∙ ap (λ us. opened l loc (each us close)) (at_level-of arm_written (suc l) arms) in
      let s : Right total (opened l loc inner) = right-as total e r in
      let p = place loc (token (tok.Symbol symbol.OpenBrace) ∷ inner) (off-token total _ _ (off-node total _ _ s)) in
      let a = are-each total ArmTree Arm (numbered_arm t) arm_count IsArm (arm_at (suc l)) arms (each-arm (suc l) arms h) close (off-token total _ _ p.right) in
      is-as total SplitTree LayTree (numbered_split t) leaf_count IsTree (tree_at l) (S.Split loc arms None) rest (opened l loc inner) e
      (off-token total _ _ a.right) (omega (arith, p.shorter, a.count))
      (λ b k.
      let f = then-ok (all_of (map (numbered_arm t) arms)) _ b (sym (numbered-Split t loc arms None) ∙ k) in
      let v = a.well f.0 f.1 in
      let few : length f.0 ≤ total = omega (arith, v.same, a.count, p.right.fits) in
      let m = arms-short f.0 few v.good in
      rw (← ok-is (L.Split loc f.0 None) b f.2) (
        rw (leaves-None loc f.0)
            (omega (arith, p.shorter, v.few, arms-count f.0, length-two (flat_map (λ (ls : List WrittenLeaf). ls) (map leaves_under f.0)) [])),
        record {
          proven = rw (leaves-None loc f.0) (all-two (λ (w : WrittenLeaf). w.provenance) (provenance_is_numbered types) (flat_map (λ (ls : List WrittenLeaf). ls) (map leaves_under f.0)) []
              (arms-proven f.0 v.good) refl);
          short = short-None loc f.0 ∙ and_from _ _ p.short (and_from _ _ m.0 (and_from _ _ m.1 refl));
        },
      ))

  split-else : (loc : Loc) (arms : List ArmTree) (other : SplitTree) → lay-items.Each (λ (a : ArmTree). TreeFine a.under) arms → TreeFine other
      → TreeFine (S.Split loc arms (Some other))
  split-else loc arms other h o l rest r =
      let close : List Written = token (tok.Symbol symbol.CloseBrace) ∷ rest in
      let last : List Written = token (tok.Reserved word.Else) ∷ token (tok.Symbol symbol.FatArrow) ∷ split_written other (suc l) close in
      let inner : List Written = each (map (arm_at (suc l)) arms) last in
      let e : split_written (S.Split loc arms (Some other)) l rest ≡ opened l loc inner =
      split-Some loc arms other l rest ∙ ap (λ us. opened l loc (each us last)) (at_level-of arm_written (suc l) arms) in
      let s : Right total (opened l loc inner) = right-as total e r in
      let p = place loc (token (tok.Symbol symbol.OpenBrace) ∷ inner) (off-token total _ _ (off-node total _ _ s)) in
      let a = are-each total ArmTree Arm (numbered_arm t) arm_count IsArm (arm_at (suc l)) arms (each-arm (suc l) arms h) last (off-token total _ _ p.right) in
      let x = o (suc l) close (off-token total _ _ (off-token total _ _ a.right)) in
      is-as total SplitTree LayTree (numbered_split t) leaf_count IsTree (tree_at l) (S.Split loc arms (Some other)) rest (opened l loc inner) e
      (off-token total _ _ x.right) (omega (arith, p.shorter, a.count, x.shorter))
      (λ b k.
      let f = then-ok (all_of (map (numbered_arm t) arms)) _ b (sym (numbered-Split t loc arms (Some other)) ∙ k) in
      let g = then-ok (numbered_else (Some (numbered_split t other))) _ b f.2 in
      let j = then-ok (numbered_split t other) _ g.0 g.1 in
      let v = a.well f.0 f.1 in
      let y = x.well j.0 j.1 in
      let few : length f.0 ≤ total = omega (arith, v.same, a.count, p.right.fits) in
      let m = arms-short f.0 few v.good in
      let found : L.Split loc f.0 (Some j.0) ≡ b = ap (λ (u : Option LayTree). L.Split loc f.0 u) (ok-is (Some j.0) g.0 j.2) ∙ ok-is (L.Split loc f.0 g.0) b g.2 in
      rw (← found) (
        rw (leaves-Some loc f.0 j.0)
            (omega (arith, p.shorter, v.few, y.0, arms-count f.0, length-two (flat_map (λ (ls : List WrittenLeaf). ls) (map leaves_under f.0)) (leaves j.0))),
        record {
          proven = rw (leaves-Some loc f.0 j.0) (all-two (λ (w : WrittenLeaf). w.provenance) (provenance_is_numbered types) (flat_map (λ (ls : List WrittenLeaf). ls) (map leaves_under f.0)) (leaves j.0)
              (arms-proven f.0 v.good) y.1.proven);
          short = short-Some loc f.0 j.0 ∙ and_from _ _ p.short (and_from _ _ m.0 (and_from _ _ m.1 y.1.short));
        },
      ))

  tree-fine : (s : SplitTree) → TreeFine s
  tree-fine = induction.tree-induction TreeFine (record { split = split-none; split_else = split-else; leaf = tree-leaf })

  -- Layouts.

  abbrev any_width : ℕ → Resolved ℕ
  any_width n = Ok n

  abbrev NoWidth : ℕ → Type 0
  NoWidth n = Unit {0}

  widths-fine : (ns : List ℕ) → Each (Fine total ℕ ℕ any_width (λ x. 0) NoWidth width_written) ns
  widths-fine [] = tt
  widths-fine (n ∷ ns) = (
    (λ rest r. record {
      right = off-token total _ _ r;
      shorter = omega arith;
      well = λ x e. (omega arith, tt);
    }),
    widths-fine ns,
  )

  module _ (known_type : (name : Name) (n : ℕ) → meaning t.types name ≡ Some n → nat_lt n (length types) ≡ true) where
    pub record LayoutWell (l : LayoutTree) (rest : List Written) : Type 0 where
      pub right : Right total rest
      pub shorter : length (tokens_in rest) < length (tokens_in (layout_written l rest))
      pub well : (d : LayoutDecl) → numbered_layout t l ≡ Ok d → layout_is_numbered types d ≡ true

    shape-between : (shape : List ℕ) → 0 < length shape → length shape ≤ 8 → is_between 1 8 (length shape) ≡ true
    shape-between shape h k = grind (arith, common_steps, h, k)

    -- a layout that is numbered is one of the program
    pub layout-well : (l : LayoutTree) (rest : List Written) → length l.shape ≤ 8 → Right total (layout_written l rest) → LayoutWell l rest
    layout-well l rest k r =
        let final : List Written = token (tok.Symbol symbol.Semicolon) ∷ rest in
        let behind : List Written = token (tok.Symbol symbol.Greater) ∷ token (tok.Symbol symbol.Equals) ∷ split_written l.tree 1 final in
        let s : Right total (some_with comma (map width_written l.shape) behind) =
        off-token total _ _ (off-token total _ _ (off-number total _ _ (off-token total _ _ (off-number total _ _ r)))) in
        let a = are-some total ℕ ℕ any_width (λ x. 0) NoWidth width_written comma l.shape (widths-fine l.shape) behind s in
        let x = tree-fine l.tree 1 final (off-token total _ _ (off-token total _ _ a.1.right)) in record {
          right = off-token total _ _ x.right;
          shorter = omega (arith, a.1.count, x.shorter);
          well = λ d e.
              let f = then-ok (name_found l.ty (meaning t.types l.ty.text)) _ d e in
              let g = then-ok (numbered_split t l.tree) _ d f.2 in
              let v = x.well g.0 g.1 in
              let few : is_short (leaves g.0) ≡ true = short-of total small (leaves g.0) (omega (arith, v.0, a.1.count, s.fits)) in
              subst (λ (y : LayoutDecl). layout_is_numbered types y ≡ true) (ok-is (record { at = l.at; ty = f.0; shape = l.shape; tree = g.0 }) d g.2)
              (and_from _ _ (known_type l.ty.text f.0 (known-ok l.ty (meaning t.types l.ty.text) f.0 f.1))
              (and_from _ _ (shape-between l.shape a.0 k) (and_from _ _ v.1.proven (and_from _ _ few v.1.short))));
        }
