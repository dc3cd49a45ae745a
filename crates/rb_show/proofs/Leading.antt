-- Ways through trees of splits, form by form.
use Rattle.std.proofs.Common.{◌≡◌, ℕ, ◌+◌, ◌<◌, List, [], ◌∷◌, ◌++◌, map, length, take, get_or, Some, None, refl, sym, ap, ◌∙◌, append_assoc, append-nil}
use Rattle.std.proofs.lemmas.List.{map-append}
use Rattle.std.proofs.lemmas.List.Folds.{flat_map-map}
use Rattle.std.proofs.Math.Seq.{take-append_seam}
use Rattle.std.specs.List.{flat_map}
use Rattle.rb_core.specs.declared.layout_decl.Loc.{Loc}
use Rattle.rb_core.specs.declared.types.DataDecl.{DataDecl}
use Rattle.rb_layout.specs.declared.layout.FlatArm.{FlatArm}
use Rattle.rb_layout.specs.declared.layout.FlatTree.{FlatTree}
use Rattle.rb_layout.specs.declared.layout.FlatTree as T
use Rattle.rb_layout.specs.declared.layout.FlatTree.TheFolds.{fold_out-FlatArm}
use Rattle.rb_layout.specs.declared.layout.Leaf.{Leaf}
use Rattle.rb_layout.specs.Splits.{Test, Is, IsNone, Route, under_test, Under, arm_routes, literals_of, routes_step, routes_arm, routes_of, routes_under}
use Rattle.rb_layout.proofs.FlatForms as F
use Rattle.rb_show.specs.Lines.{condition_line, route_lines}
use Rattle.rb_show.specs.inner.Ways.{literals_in, way, way_behind, way_lines, ways_behind}
use Rattle.rb_show.specs.declared.ways.Way.{Way}
use Rattle.rb_core.proofs.TextLemmas.{appended}
use Rattle.rb_show.proofs.Texts.{flat_next}

pub routes-arm : (a : FlatArm) → routes_under a ≡ record { literal = a.literal; of = routes_of a.under }
routes-arm a = fold_out-FlatArm (List Route) (Under (List Route)) routes_step routes_arm a

pub routes-Leaf : (n : ℕ) → routes_of (T.Leaf n) ≡ record { leaf = n; tests = [] } ∷ []
routes-Leaf n = F.fold-Leaf (List Route) (Under (List Route)) routes_step routes_arm n

abbrev pub arms_routes : Loc → List FlatArm → List Route
arms_routes loc arms = flat_map (arm_routes loc) (map routes_under arms)

pub routes-Split : (loc : Loc) (arms : List FlatArm) → routes_of (T.Split loc arms None) ≡ arms_routes loc arms
routes-Split loc arms = F.fold-Split (List Route) (Under (List Route)) routes_step routes_arm loc arms ∙ append-nil (arms_routes loc arms)

literals-are : (arms : List FlatArm) → literals_of (map routes_under arms) ≡ literals_in arms
literals-are [] = refl
literals-are (a ∷ arms) = ap (λ (u : Under (List Route)). u.literal ∷ literals_of (map routes_under arms)) (routes-arm a) ∙ ap (λ ls. a.literal ∷ ls) (literals-are arms)

pub routes-Split-else : (loc : Loc) (arms : List FlatArm) (other : FlatTree)
    → routes_of (T.Split loc arms (Some other)) ≡ arms_routes loc arms ++ map (under_test (IsNone loc (literals_in arms))) (routes_of other)
routes-Split-else loc arms other =
    F.fold-Split-else (List Route) (Under (List Route)) routes_step routes_arm loc arms other
    ∙ ap (λ ls. arms_routes loc arms ++ map (under_test (IsNone loc ls)) (routes_of other)) (literals-are arms)

-- the outermost test's line stands behind those above it
pub ways-behind : (above : List ℕ) (t : Test) (rs : List Route) → ways_behind (above ++ condition_line t) rs ≡ ways_behind above (map (under_test t) rs)
ways-behind above t [] = refl
ways-behind above t (r ∷ rs) =
    ap (λ (l : List ℕ). way r.leaf l ∷ ways_behind (above ++ condition_line t) rs) (append_assoc above (condition_line t) (flat_map condition_line r.tests))
    ∙ ap (λ ws. way_behind above (under_test t r) ∷ ws) (ways-behind above t rs)

pub one_way : (tree : FlatTree) (n : ℕ) (above : List ℕ) (start : List Way) → tree ≡ T.Leaf n → start ++ way n above ∷ [] ≡ start ++ ways_behind above (routes_of tree)
one_way tree n above start is =
    ap (λ (l : List ℕ). start ++ way n l ∷ []) (sym (append-nil above))
    ∙ ap (λ rs. start ++ ways_behind above rs) (sym (ap routes_of is ∙ routes-Leaf n))

pub no_else : (tree : FlatTree) (loc : Loc) (arms : List FlatArm) (above : List ℕ) (start after : List Way) → tree ≡ T.Split loc arms None
    → after ≡ start ++ ways_behind above (arms_routes loc arms) → after ≡ start ++ ways_behind above (routes_of tree)
no_else tree loc arms above start after is e = e ∙ ap (λ rs. start ++ ways_behind above rs) (sym (ap routes_of is ∙ routes-Split loc arms))

pub with_else : (tree : FlatTree) (loc : Loc) (arms : List FlatArm) (other : FlatTree) (above below : List ℕ) (start middle after : List Way)
    → tree ≡ T.Split loc arms (Some other) → middle ≡ start ++ ways_behind above (arms_routes loc arms)
    → below ≡ above ++ condition_line (IsNone loc (literals_in arms)) → after ≡ middle ++ ways_behind below (routes_of other)
    → after ≡ start ++ ways_behind above (routes_of tree)
with_else tree loc arms other above below start middle after is e0 e1 e2 =
    let t = IsNone loc (literals_in arms) in
    let first = arms_routes loc arms in
    let rest = map (under_test t) (routes_of other) in
    appended start (ways_behind above first) (ways_behind above (first ++ rest)) (ways_behind above rest) middle after e0
    (e2 ∙ ap (λ b. middle ++ ways_behind b (routes_of other)) e1 ∙ ap (λ ws. middle ++ ws) (ways-behind above t (routes_of other)))
    (map-append (way_behind above) first rest)
    ∙ ap (λ rs. start ++ ways_behind above rs) (sym (ap routes_of is ∙ routes-Split-else loc arms other))

abbrev arm_ways : List ℕ → Loc → FlatArm → List Way
arm_ways above loc a = ways_behind above (arm_routes loc (routes_under a))

arms-ways : (above : List ℕ) (loc : Loc) (arms : List FlatArm) → ways_behind above (arms_routes loc arms) ≡ flat_map (arm_ways above loc) arms
arms-ways above loc [] = refl
arms-ways above loc (a ∷ arms) =
    map-append (way_behind above) (arm_routes loc (routes_under a)) (arms_routes loc arms) ∙ ap (λ ws. arm_ways above loc a ++ ws) (arms-ways above loc arms)

pub arms_next : (loc : Loc) (arms : List FlatArm) (k : ℕ) (x : FlatArm) (above below : List ℕ) (start before after : List Way)
    → k < length arms → x ≡ get_or arms k x → below ≡ above ++ condition_line (Is loc x.literal)
    → before ≡ start ++ ways_behind above (arms_routes loc (take k arms)) → after ≡ before ++ ways_behind below (routes_of x.under)
    → after ≡ start ++ ways_behind above (arms_routes loc (take (k + 1) arms))
arms_next loc arms k x above below start before after lt is b e0 e1 =
    let t = Is loc x.literal in
    let here : ways_behind below (routes_of x.under) ≡ arm_ways above loc x
    = ap (λ l. ways_behind l (routes_of x.under)) b ∙ ways-behind above t (routes_of x.under) ∙ ap (λ (u : Under (List Route)). ways_behind above (arm_routes loc u)) (sym (routes-arm x)) in
    flat_next (arm_ways above loc) arms k x start before after lt is (e0 ∙ ap (λ ws. start ++ ws) (arms-ways above loc (take k arms))) (e1 ∙ ap (λ ws. before ++ ws) here)
    ∙ ap (λ ws. start ++ ws) (sym (arms-ways above loc (take (k + 1) arms)))

-- the lines of ways with no condition above them are those of the routes
pub routes-shown : (types : List DataDecl) (leaves : List Leaf) (rs : List Route) → flat_map (way_lines types leaves) (ways_behind [] rs) ≡ flat_map (route_lines types leaves) rs
routes-shown types leaves rs = flat_map-map (way_lines types leaves) (way_behind []) rs

-- a text that was cut to its old length again
pub restored : (n : ℕ) (above old middle late new : List ℕ) (line : List ℕ) → n ≡ length old → middle ≡ old ++ line → late ≡ middle → new ≡ take n late → old ≡ above → new ≡ above
restored n above old middle late new line e0 e1 e2 e3 e4 = e3 ∙ ap (λ l. take n l) (e2 ∙ e1) ∙ ap (λ k. take k (old ++ line)) e0 ∙ take-append_seam old line ∙ e4

-- a line behind a text that is as it was
pub behind_kept : (above old now : List ℕ) (line : List ℕ) → now ≡ old ++ line → old ≡ above → now ≡ above ++ line
behind_kept above old now line e0 e1 = e0 ∙ ap (λ t. t ++ line) e1
