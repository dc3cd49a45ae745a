-- Trees of splits: what a walk does, what is nested, and what fits.
use Rattle.std.proofs.Common.{◌≡◌, ℕ, zero, suc, ◌+◌, ◌<◌, ◌≤◌, ◌^◌, Bool, true, false, List, [], ◌∷◌, ◌++◌, map, Option, Some, None, refl, sym, subst, ap, ◌∙◌, arith, is_some}
use Rattle.std.specs.Prelude.{slice_get, nat_eq, max, if◌then◌else◌}
use Rattle.std.specs.List.{flat_map}
use Rattle.rb_core.specs.declared.layout_decl.Loc.{Loc}
use Rattle.rb_bytes.specs.Memory.{Memory}
use Rattle.rb_layout.specs.declared.layout.FlatTree.{FlatTree, Split, Leaf}
use Rattle.rb_layout.specs.declared.layout.FlatTree.TheFolds.{fold-FlatArm, fold_out-FlatArm}
use Rattle.rb_layout.specs.declared.layout.FlatArm.{FlatArm}
use Rattle.rb_layout.specs.Splits.{Under, SplitAt, literals_of, splits_or_none, splits_step, splits_arm, splits_of, splits_under}
use Rattle.rb_layout.proofs.FlatForms.{fold-Leaf, fold-Split, fold-Split-else}
use Rattle.rb_rel.specs.Reading.{read_loc, Walk, walk_else, walk_arms, walk_at, walk_step, walk_arm, walk}
use Rattle.rb_rel.proofs.Trees.{walk_under}
use Rattle.rb_rel.specs.Switches.{greatest, or_zero, nesting_step, nesting_arm, nesting}
use Rattle.rb_rel.proofs.Counting as N
use Rattle.rb_rel.proofs.Lists.{get-left, get-right}
use Rattle.rb_target.proofs.Shapes.{next_arm, pick}
use Rattle.rb_fetch.specs.Fetching.{LocFits}
use Rattle.rb_fetch.specs.inner.Looking.{SplitFits, TreeFits, under_arm, under_at}

abbrev pub map_opt : {A B : Type 0} → (A → B) → Option A → Option B
map_opt f None = None
map_opt f (Some x) = Some (f x)

abbrev pub literals : List FlatArm → List ℕ
literals [] = []
literals (a ∷ arms) = a.literal ∷ literals arms

pub walk-Leaf : (n : ℕ) (ws : List ℕ) (m : Memory) → walk (Leaf n) ws m ≡ Some n
walk-Leaf n ws m = ap (λ (go : Walk). go ws m) (fold-Leaf Walk (Under Walk) walk_step walk_arm n)

pub walk-Split : (loc : Loc) (arms : List FlatArm) (other : Option FlatTree) (ws : List ℕ) (m : Memory)
    → walk (Split loc arms other) ws m ≡ walk_at (read_loc ws m loc) (map walk_under arms) (map_opt walk other) ws m
walk-Split loc arms None ws m = ap (λ (go : Walk). go ws m) (fold-Split Walk (Under Walk) walk_step walk_arm loc arms)
walk-Split loc arms (Some t) ws m = ap (λ (go : Walk). go ws m) (fold-Split-else Walk (Under Walk) walk_step walk_arm loc arms t)

walk-arm : (a : FlatArm) → walk_under a ≡ record { literal = a.literal; of = walk a.under }
walk-arm a = fold_out-FlatArm Walk (Under Walk) walk_step walk_arm a

abbrev pub depth_under : FlatArm → ℕ
depth_under = fold-FlatArm ℕ ℕ nesting_step nesting_arm

pub nesting-is : (loc : Loc) (arms : List FlatArm) (other : Option FlatTree) → nesting (Split loc arms other) ≡ 1 + max (greatest (map depth_under arms)) (or_zero (map_opt nesting other))
nesting-is loc arms None = N.nesting-Split loc arms
nesting-is loc arms (Some t) = N.nesting-else loc arms t

pub nesting-arm : (a : FlatArm) → depth_under a ≡ nesting a.under
nesting-arm a = fold_out-FlatArm ℕ ℕ nesting_step nesting_arm a

pub splits-Split : (loc : Loc) (arms : List FlatArm) (other : Option FlatTree)
    → splits_of (Split loc arms other) ≡ record { loc = loc; literals = literals_of (map splits_under arms); other = is_some other } ∷ (flat_map (λ arm. arm.of) (map splits_under arms) ++ splits_or_none (map_opt splits_of other))
splits-Split loc arms None = fold-Split (List SplitAt) (Under (List SplitAt)) splits_step splits_arm loc arms
splits-Split loc arms (Some t) = fold-Split-else (List SplitAt) (Under (List SplitAt)) splits_step splits_arm loc arms t

pub splits-arm : (a : FlatArm) → splits_under a ≡ record { literal = a.literal; of = splits_of a.under }
splits-arm a = fold_out-FlatArm (List SplitAt) (Under (List SplitAt)) splits_step splits_arm a

-- Walks

abbrev pub walk_opt : Option FlatTree → Walk
walk_opt None ws m = None
walk_opt (Some t) ws m = walk t ws m

else-is : (other : Option FlatTree) (ws : List ℕ) (m : Memory) → walk_else (map_opt walk other) ws m ≡ walk_opt other ws m
else-is None ws m = refl
else-is (Some t) ws m = refl

pub later : (a : FlatArm) (arms : List FlatArm) (other : Option FlatTree) (p : Option ℕ) → under_at (a ∷ arms) other (next_arm p) ≡ under_at arms other p
later a arms other None = refl
later a arms other (Some k) = refl

pub arms-is : (arms : List FlatArm) (other : Option FlatTree) (x : ℕ) (ws : List ℕ) (m : Memory)
    → walk_arms (map walk_under arms) (map_opt walk other) x ws m ≡ walk_opt (under_at arms other (pick (literals arms) x)) ws m
arms-is [] other x ws m = else-is other ws m
arms-is (a ∷ arms) other x ws m =
    ap (λ (q : Under Walk). if nat_eq q.literal x then q.of ws m else walk_arms (map walk_under arms) (map_opt walk other) x ws m) (walk-arm a)
    ∙ go (nat_eq a.literal x) (arms-is arms other x ws m)
  where
    go : (t : Bool) → walk_arms (map walk_under arms) (map_opt walk other) x ws m ≡ walk_opt (under_at arms other (pick (literals arms) x)) ws m
        → ◌≡◌ {A = Option ℕ} (if t then walk a.under ws m else walk_arms (map walk_under arms) (map_opt walk other) x ws m) (walk_opt (under_at (a ∷ arms) other (if t then Some 0 else next_arm (pick (literals arms) x))) ws m)
    go true h = refl
    go false h = h ∙ ap (λ o. walk_opt o ws m) (sym (later a arms other (pick (literals arms) x)))

-- a walk of a split reads its location and goes on below one arm
pub record Walked (loc : Loc) (arms : List FlatArm) (other : Option FlatTree) (ws : List ℕ) (m : Memory) (n : ℕ) : Type 0 where
  pub value : ℕ
  pub is_read : read_loc ws m loc ≡ Some value
  pub tree : FlatTree
  pub is_tree : under_at arms other (pick (literals arms) value) ≡ Some tree
  pub walks : walk tree ws m ≡ Some n

pub walked : (loc : Loc) (arms : List FlatArm) (other : Option FlatTree) (ws : List ℕ) (m : Memory) (n : ℕ) → walk (Split loc arms other) ws m ≡ Some n → Walked loc arms other ws m n
walked loc arms other ws m n e = at_read (read_loc ws m loc) refl (sym (walk-Split loc arms other ws m) ∙ e)
  where
    at_tree : (x : ℕ) → read_loc ws m loc ≡ Some x → (o : Option FlatTree) → under_at arms other (pick (literals arms) x) ≡ o → walk_opt o ws m ≡ Some n → Walked loc arms other ws m n
    at_tree x is None at h = absurd cc
    at_tree x is (Some t) at h = record { value = x; is_read = is; tree = t; is_tree = at; walks = h }

    at_read : (o : Option ℕ) → read_loc ws m loc ≡ o → walk_at o (map walk_under arms) (map_opt walk other) ws m ≡ Some n → Walked loc arms other ws m n
    at_read None is h = absurd cc
    at_read (Some x) is h = at_tree x is (under_at arms other (pick (literals arms) x)) refl (sym (arms-is arms other x ws m) ∙ h)

-- Nesting

greatest-has : (arms : List FlatArm) (k : ℕ) (t : FlatTree) → under_arm (slice_get arms k) ≡ Some t → nesting t ≤ greatest (map depth_under arms)
greatest-has [] k t e = absurd cc
greatest-has (a ∷ arms) zero t e = let is : a.under ≡ t = cc in let h = nesting-arm a in let g = ap nesting is in omega (arith, h, g)
greatest-has (a ∷ arms) (suc k) t e = let h = greatest-has arms k t e in omega (arith, h)

pub nested : (loc : Loc) (arms : List FlatArm) (other : Option FlatTree) (x : Option ℕ) (t : FlatTree) → under_at arms other x ≡ Some t → 1 + nesting t ≤ nesting (Split loc arms other)
nested loc arms None None t e = absurd cc
nested loc arms (Some u) None t e = let is : u ≡ t = cc in let h = nesting-is loc arms (Some u) in let g = ap nesting is in omega (arith, h, g)
nested loc arms other (Some k) t e = let h = nesting-is loc arms other in let g = greatest-has arms k t e in omega (arith, h, g)

-- What fits

abbrev AllFit : ℕ → List SplitAt → Type 0
AllFit n ss = (k : ℕ) (s : SplitAt) → slice_get ss k ≡ Some s → SplitFits n s

abbrev below_arms : List FlatArm → List SplitAt
below_arms arms = flat_map (λ arm. arm.of) (map splits_under arms)

fit-arm : (n : ℕ) (arms : List FlatArm) (k : ℕ) (t : FlatTree) → under_arm (slice_get arms k) ≡ Some t → AllFit n (below_arms arms) → TreeFits n t
fit-arm n [] k t e h = absurd cc
fit-arm n (a ∷ arms) zero t e h =
    let is : a.under ≡ t = cc in
    let of : (splits_under a).of ≡ splits_of t = ap (λ (u : Under (List SplitAt)). u.of) (splits-arm a) ∙ ap splits_of is in
    λ j s at. h j s (get-left (splits_under a).of (below_arms arms) j s (ap (λ ss. slice_get ss j) of ∙ at))
fit-arm n (a ∷ arms) (suc k) t e h = fit-arm n arms k t e (λ j s at. let r = get-right (splits_under a).of (below_arms arms) j s at in h r.0 s r.1)

-- the splits below one
below_fit : (n : ℕ) (loc : Loc) (arms : List FlatArm) (other : Option FlatTree) → TreeFits n (Split loc arms other) → AllFit n (below_arms arms) × AllFit n (splits_or_none (map_opt splits_of other))
below_fit n loc arms other h =
    let all : AllFit n (below_arms arms ++ splits_or_none (map_opt splits_of other)) = λ j s at. h (suc j) s (ap (λ ss. slice_get ss (suc j)) (splits-Split loc arms other) ∙ at) in (
      λ j s at. all j s (get-left (below_arms arms) (splits_or_none (map_opt splits_of other)) j s at),
      λ j s at. let r = get-right (below_arms arms) (splits_or_none (map_opt splits_of other)) j s at in all r.0 s r.1,
    )

pub fit-under : (n : ℕ) (loc : Loc) (arms : List FlatArm) (other : Option FlatTree) (x : Option ℕ) (t : FlatTree) → under_at arms other x ≡ Some t → TreeFits n (Split loc arms other) → TreeFits n t
fit-under n loc arms None None t e h = absurd cc
fit-under n loc arms (Some u) None t e h = let is : u ≡ t = cc in subst (TreeFits n) is (below_fit n loc arms (Some u) h).1
fit-under n loc arms other (Some k) t e h = fit-arm n arms k t e (below_fit n loc arms other h).0

abbrev pub AllSmall : List ℕ → Type 0
AllSmall [] = Unit {0}
AllSmall (c ∷ cs) = (c < 2 ^ 64) × AllSmall cs

small_arms : (arms : List FlatArm) → ((k c : ℕ) → slice_get (literals_of (map splits_under arms)) k ≡ Some c → c < 2 ^ 64) → AllSmall (literals arms)
small_arms [] h = tt
small_arms (a ∷ arms) h = (h 0 a.literal (ap Some (ap (λ (u : Under (List SplitAt)). u.literal) (splits-arm a))), small_arms arms (λ k c e. h (suc k) c e))

pub fit-split : (n : ℕ) (loc : Loc) (arms : List FlatArm) (other : Option FlatTree) → TreeFits n (Split loc arms other) → LocFits loc × (loc.word < n) × AllSmall (literals arms)
fit-split n loc arms other h =
    let f = h 0 _ (ap (λ ss. slice_get ss 0) (splits-Split loc arms other)) in (f.loc, f.word, small_arms arms f.small)
