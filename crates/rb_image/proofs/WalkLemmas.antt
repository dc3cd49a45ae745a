-- Splits that are walked on words of an image: what one turn comes to.
use Rattle.std.proofs.Common.{◌≡◌, ℕ, nat_eq, map, List, [], ◌∷◌, Bool, true, false, Option, Some, None, Ok, Err, refl, sym, ap, ◌∙◌}
use Rattle.std.specs.Prelude.{if◌then◌else◌}
use Rattle.rb_core.specs.declared.layout_decl.Loc.{Loc}
use Rattle.rb_layout.specs.declared.layout.FlatTree.{FlatTree, Split, Leaf}
use Rattle.rb_layout.specs.declared.layout.FlatTree.TheOpen as T
use Rattle.rb_layout.specs.declared.layout.FlatTree.TheFolds.{fold-FlatArm, fold-roll-FlatArm}
use Rattle.rb_layout.specs.declared.layout.FlatArm.{FlatArm}
use Rattle.rb_layout.specs.Splits.{Under}
use Rattle.rb_layout.proofs.FlatForms as F
use Rattle.rb_coding.specs.Arms.{under_number}
use Rattle.rb_image_text.specs.declared.fault.ImageFault.{ImageFault}
use Rattle.rb_image_text.specs.declared.fault.ImageFault.TheVariants.{BadBits}
use Rattle.rb_image_text.specs.declared.image.ImageBlock.{ImageBlock}
use Rattle.rb_image.specs.declared.kept.Kept.{Kept}
use Rattle.rb_image.specs.Splits.{SplitWalk, and_then, leaf_at, range_at, walk_arm, walk_arms, walk_step}

-- an arm of a tree of splits: its literal, and the leaf to which the splits under it lead
abbrev pub walk_under : FlatArm → Under SplitWalk
walk_under = fold-FlatArm SplitWalk (Under SplitWalk) walk_step walk_arm

under_is : (a : FlatArm) → walk_under a ≡ record { literal = a.literal; of = leaf_at a.under }
unfolding denote.Hole.Carrier.roll
under_is a = fold-roll-FlatArm SplitWalk (Under SplitWalk) walk_step walk_arm (record { literal = a.literal; under = a.under })

abbrev pub other_walk : Option FlatTree → Option SplitWalk
other_walk None = None
other_walk (Some t) = Some (leaf_at t)

tree_walk : (loc : Loc) (arms : List FlatArm) (other : Option FlatTree) → leaf_at (Split loc arms other) ≡ walk_step (T.Split loc (map walk_under arms) (other_walk other))
tree_walk loc arms None = F.fold-Split SplitWalk (Under SplitWalk) walk_step walk_arm loc arms
tree_walk loc arms (Some t) = F.fold-Split-else SplitWalk (Under SplitWalk) walk_step walk_arm loc arms t

-- what goes on below a split
abbrev pub go_on : Kept → Option FlatTree → SplitWalk
go_on range None m ws = Err (BadBits range.base range.place)
go_on range (Some t) m ws = leaf_at t m ws

pub arms_walk : (range : Kept) (arms : List FlatArm) (other : Option FlatTree) (m : List ImageBlock) (ws : List Kept)
    → walk_arms range (map walk_under arms) (other_walk other) m ws ≡ go_on range (under_number arms other range.number) m ws
arms_walk range [] None m ws = refl
arms_walk range [] (Some t) m ws = refl
arms_walk range (a ∷ arms) other m ws =
    ap (λ (u : Under SplitWalk). if nat_eq u.literal range.number then u.of m ws else walk_arms range (map walk_under arms) (other_walk other) m ws) (under_is a)
    ∙ turn (arms_walk range arms other m ws) (nat_eq a.literal range.number)
  where
    turn : walk_arms range (map walk_under arms) (other_walk other) m ws ≡ go_on range (under_number arms other range.number) m ws → (b : Bool) → (if b then leaf_at a.under m ws else walk_arms range (map walk_under arms) (other_walk other) m ws)
        ≡ go_on range (if b then Some a.under else under_number arms other range.number) m ws
    turn ih true = refl
    turn ih false = ih

pub leaf_walk : (tree : FlatTree) (n : ℕ) (m : List ImageBlock) (ws : List Kept) → tree ≡ Leaf n → leaf_at tree m ws ≡ Ok n
leaf_walk tree n m ws is = ap (λ t. leaf_at t m ws) is ∙ ap (λ (w : SplitWalk). w m ws) (F.fold-Leaf SplitWalk (Under SplitWalk) walk_step walk_arm n)

pub split_walk : (tree : FlatTree) (loc : Loc) (arms : List FlatArm) (other : Option FlatTree) (m : List ImageBlock) (ws : List Kept) → tree ≡ Split loc arms other
    → leaf_at tree m ws ≡ and_then (range_at m ws loc) (λ range. walk_arms range (map walk_under arms) (other_walk other) m ws)
split_walk tree loc arms other m ws is = ap (λ t. leaf_at t m ws) is ∙ ap (λ (w : SplitWalk). w m ws) (tree_walk loc arms other)

-- a split whose location has no fault
pub split_turn : (tree : FlatTree) (loc : Loc) (arms : List FlatArm) (other : Option FlatTree) (m : List ImageBlock) (ws : List Kept) (range : Kept) (next : Option FlatTree)
    → tree ≡ Split loc arms other → range_at m ws loc ≡ Ok range → next ≡ under_number arms other range.number → leaf_at tree m ws ≡ go_on range next m ws
split_turn tree loc arms other m ws range next is read under =
    split_walk tree loc arms other m ws is ∙ ap (λ r. and_then r (λ range. walk_arms range (map walk_under arms) (other_walk other) m ws)) read
    ∙ arms_walk range arms other m ws ∙ ap (λ t. go_on range t m ws) (sym under)

-- and one that has one
pub split_fault : (tree : FlatTree) (loc : Loc) (arms : List FlatArm) (other : Option FlatTree) (m : List ImageBlock) (ws : List Kept) (fault : ImageFault)
    → tree ≡ Split loc arms other → range_at m ws loc ≡ Err fault → leaf_at tree m ws ≡ Err fault
split_fault tree loc arms other m ws fault is read =
    split_walk tree loc arms other m ws is ∙ ap (λ r. and_then r (λ range. walk_arms range (map walk_under arms) (other_walk other) m ws)) read
