-- Code that binds fields, wherever their words are got from.
use Rattle.std.proofs.Common.{◌≡◌, ℕ, ◌+◌, true, false, List, [], ◌∷◌, ◌++◌, get_or, sym, subst, ap}
use denote.Ref.{Bor}
use Rattle.rb_core.specs.declared.types.Ty.{Ty}
use Rattle.rb_core.specs.declared.types.Ty.TheVariants.{Named}
use Rattle.rb_core.specs.declared.types.ConRef.{ConRef}
use Rattle.rb_core.specs.declared.pattern.Pat.{Pat}
use Rattle.rb_target.specs.Sheet.{Sheet}
use Rattle.rb_layout.specs.declared.agreed.LaidOut.{LaidOut}
use Rattle.rb_fragment.specs.declared.held.Local.{Local}
use Rattle.rb_match.specs.declared.binding.FieldSource.{FieldSource}
use Rattle.rb_match.specs.declared.binding.FieldSource.TheVariants as F
use Rattle.rb_facts.specs.declared.knowledge.Known.{Known}
use Rattle.rb_facts.specs.declared.knowledge.Spot.{Spot}
use Rattle.rb_facts.specs.Looks.{takes_none_apart}
use Rattle.rb_match.specs.Choosing.{BindsPattern}
use Rattle.rb_match.specs.inner.Binding.{BindsFieldFrom, BindsFields, BindsFieldsFrom, BindsSpots, FieldStands, GivesFields, IsOnlyLeaf, SavesTogether, StandsInSpot, is_unbound}
use Rattle.rb_facts.specs.Knowing.{FollowsSaved}
use Rattle.rb_facts.specs.Saving.{GivesSpots, IsSpotAt}
use Rattle.rb_facts.proofs.Mending.{MendsIn}
use Rattle.rb_match.proofs.Bindings.{con_binds, field_binds, field_unbound, fields_binds, fields_none}
use Rattle.rb_match.proofs.SavedBindings.{deep_binds, spot_binds, spot_unbound, spots_bind, spots_none}
use Rattle.rb_facts.proofs.SavedParts.{item-is}

-- a spot that is known to hold its field
pub spot_stands : (spots : List Spot) (known : List Known) (i : ℕ) (field : Ty) (k : ℕ) (d : Spot) → IsSpotAt spots (i ∷ []) field k → FollowsSaved known k → StandsInSpot spots known i field (get_or spots k d).slots
spot_stands spots known i field k d (there, is, place, of) follows = (k, there, is, place, of, follows, ap (λ (x : Spot). x.slots) (sym (item-is spots k there d is)))

-- no field
pub source_none : (agreed : LaidOut) (source : FieldSource) (fields : List Ty) (i : ℕ) (old : Sheet) → BindsFieldsFrom agreed source [] fields i old old []
source_none agreed (F.Leaf value) fields i old = fields_none agreed value.ty value.leaf value.words.now fields i old
source_none agreed (F.Spots spots known) fields i old = spots_none agreed spots known fields i old

-- a field without variables
pub source_unbound : (agreed : LaidOut) (source : FieldSource) (sub : Pat) (field : Ty) (i : ℕ) (old : Sheet) → is_unbound sub ≡ true → BindsFieldFrom agreed source sub field i old old []
source_unbound agreed (F.Leaf value) sub field i old none = field_unbound agreed value.ty value.leaf value.words.now sub field i old none
source_unbound agreed (F.Spots spots known) sub field i old none = spot_unbound agreed spots known sub field i old none

-- a field whose words stand in slots, and are then bound
pub source_field : (agreed : LaidOut) (source : FieldSource) (sub : Pat) (field : Ty) (i : ℕ) (old mid new : Sheet) (slots : List ℕ) (bound : List Local) → FieldStands agreed source field i old mid slots → BindsPattern agreed field sub slots mid new bound
    → BindsFieldFrom agreed source sub field i old new bound
source_field agreed (F.Leaf value) sub field i old mid new slots bound stands binds = field_binds agreed value.ty value.leaf value.words.now sub field i old mid new slots bound stands binds
source_field agreed (F.Spots spots known) sub field i old mid new slots bound (same, (k, spot, at, place, of, follows, is)) binds =
    spot_binds agreed spots known sub field i k spot old new bound at place of follows
    (subst (λ ws. BindsPattern agreed field sub ws old new bound) is (subst (λ b. BindsPattern agreed field sub slots b new bound) same binds))

-- a field, and the others behind it
pub source_fields : (agreed : LaidOut) (source : FieldSource) (sub : Pat) (subs : List Pat) (field : Ty) (fields : List Ty) (i : ℕ) (old mid new : Sheet) (bound more : List Local) → BindsFieldFrom agreed source sub field i old mid bound
    → BindsFieldsFrom agreed source subs fields (i + 1) mid new more → BindsFieldsFrom agreed source (sub ∷ subs) (field ∷ fields) i old new (bound ++ more)
source_fields agreed (F.Leaf value) sub subs field fields i old mid new bound more first others =
    fields_binds agreed value.ty value.leaf value.words.now sub subs field fields i old mid new bound more first others
source_fields agreed (F.Spots spots known) sub subs field fields i old mid new bound more first others = spots_bind agreed spots known sub subs field fields i old mid new bound more first others

-- the fields of a value whose leaf is known
pub leaf_gives : (agreed : LaidOut) (t : Ty) (c : ConRef) (p : Pat) (subs : List Pat) (fields : List Ty) (leaf : ℕ) (words : Bor (List ℕ)) (old : Sheet) → MendsIn agreed → t ≡ Named c.ty → IsOnlyLeaf agreed c.ty p leaf
    → GivesFields agreed t c words.now p subs fields (F.Leaf (record { ty = c.ty; leaf = leaf; words = words })) old old
leaf_gives agreed t c p subs fields leaf words old mends named only = λ token is types_is new bound binds.
    subst (λ q. BindsPattern agreed t q words.now old new bound) (sym is)
    (con_binds agreed t token c subs leaf words.now old new bound mends named (subst (λ q. IsOnlyLeaf agreed c.ty q leaf) is only)
    (subst (λ fs. BindsFields agreed c.ty leaf words.now subs fs 0 old new bound) types_is binds))

-- the fields that the ways of several leaves save
pub spots_give : (agreed : LaidOut) (t : Ty) (c : ConRef) (p : Pat) (subs : List Pat) (fields : List Ty) (words : List ℕ) (spots : List Spot) (known : List Known) (old mid b : Sheet) → takes_none_apart agreed.layouts c.ty ≡ false → t ≡ Named c.ty
    → GivesSpots agreed old mid spots → SavesTogether agreed c words spots known mid b → GivesFields agreed t c words p subs fields (F.Spots spots known) old b
spots_give agreed t c p subs fields words spots known old mid b deep named gives saves = λ token is types_is new bound binds.
    subst (λ q. BindsPattern agreed t q words old new bound) (sym is)
    (deep_binds agreed t token c subs words spots known old mid b new bound deep named gives saves (subst (λ fs. BindsSpots agreed spots known subs fs 0 b new bound) types_is binds))
