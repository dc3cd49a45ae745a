-- What code that constructs a value owes. The arguments hs are values in slots, one a field of the constructor, and
-- what is shown of one is a pattern that it matches; a wildcard shows nothing. A representation is clean where all
-- bits are 0 that stand in no part of a word. A plan has a program and its layouts, and a sheet is a function's code
-- so far. A leaf is one of the forms in which a layout stores the values of a data type. `agreed` is a program with
-- layouts that agree with its types.
use Rattle.std.specs.Prelude.{◌≡◌, ℕ, ◌+◌, ◌≤◌, List, map, length, Bool, true, Some}
use Rattle.rb_core.specs.declared.value.Value.{Value, Con}
use Rattle.rb_core.specs.declared.types.Ty.{Ty}
use Rattle.rb_core.specs.declared.types.Ty.TheVariants.{Named}
use Rattle.rb_core.specs.declared.types.ConRef.{ConRef}
use Rattle.rb_core.specs.declared.pattern.Pat.{Pat}
use Rattle.rb_core.specs.Matching.{all_pass, matches_of}
use Rattle.rb_core.specs.Values.{fields_of}
use Rattle.rb_bytes.specs.Memory.{IsGood}
use Rattle.rb_target.specs.declared.instr.Instr.{Instr}
use Rattle.rb_target.specs.Growth.{Nowhere, AgreesBut}
use Rattle.rb_target.specs.Laws.{Law}
use Rattle.rb_target.specs.Meaning.{World, Next, Callee}
use Rattle.rb_target.specs.Sheet.{Sheet}
use Rattle.rb_layout.specs.declared.agreed.LaidOut.{LaidOut}
use Rattle.rb_rel.specs.Switches.{choose_of}
use Rattle.rb_fragment.specs.declared.held.Held.{Held}
use Rattle.rb_fragment.specs.Plan.{Plan, words_needed}
use Rattle.rb_fragment.specs.Adding.{Adds}
use Rattle.rb_fragment.specs.Holding.{AllGiven, AreHeld, held_type}
use Rattle.rb_fragment.specs.Slots.{AllBelow, AllFrom}
use Rattle.rb_compose.specs.Making.{MakesValue}
use Rattle.rb_fetch.specs.Finding.{IsPlanOf}

-- each value matches the pattern that is shown of it, in their order, and there are as many of both
abbrev pub AreAsShown : List Pat → List Value → Type 0
AreAsShown shown vs = all_pass (map matches_of shown) vs ≡ true

-- The code from old to new makes the value of constructor con from the arguments hs, and as cleanly as these are, in
-- the slots of `held`, which are new: of arguments that match the patterns that are shown of them. It does at most as
-- many switches as choosing the value's leaf takes.
pub record IsConstructed (plan : Plan) (con : ConRef) (hs : List Held) (shown : List Pat) (old new : Sheet)
    (held : Held) : Type 0 where
  pub kind : held.ty ≡ Named con.ty
  pub adds : Adds plan old new
  pub given : AllBelow new.slots held.slots
  pub count : length held.slots ≡ words_needed plan (Named con.ty)
  pub fresh : AllFrom old.slots held.slots
  pub does : (clean : Bool) (vs : List Value) → AreAsShown shown vs
      → (final : List Instr) (callee : Callee) (next : Next) → Law final callee next
      → AgreesBut final new.code (length old.code) (length new.code) Nowhere
      → (s : List ℕ) (w : World) → new.slots ≤ length s → IsGood w.memory → AreHeld plan clean s w.memory hs vs
      → MakesValue plan clean (w.switches + choose_of plan.layouts con.ty con.con) next (length old.code)
      (length new.code) old.slots con.ty held.slots (Con con.con vs) s w

-- in every plan of the agreed program, the code from old to new constructs `held` by constructor con of values that
-- are held, one a field, and match what is shown of them
abbrev pub Constructs : LaidOut → ConRef → List Held → List Pat → Sheet → Sheet → Held → Type 0
Constructs agreed con hs shown old new held =
    (plan : Plan) → IsPlanOf agreed plan → (fields : List Ty) → fields_of plan.program.types con ≡ Some fields
    → map held_type hs ≡ fields
    → AllGiven plan old.slots hs → IsConstructed plan con hs shown old new held
