-- The code of a construction does what the source's construction does: its event pays for the switches that choose.
use Rattle.std.proofs.Common.{◌≡◌, ◌+◌, List, [], length, refl, ap, arith}
use Rattle.rb_core.specs.declared.value.Value.{Value, Con}
use Rattle.rb_core.specs.declared.value.Value.TheVariants.{outs-Con}
use Rattle.rb_core.specs.declared.types.Ty.TheVariants.{Named}
use Rattle.rb_core.specs.declared.types.ConRef.{ConRef}
use Rattle.rb_core.specs.declared.outcome.Event.{Event}
use Rattle.rb_core.specs.declared.outcome.Event.TheVariants.{Built}
use Rattle.rb_core.specs.declared.outcome.SourceEnd.TheVariants.{Done}
use Rattle.rb_core.specs.declared.pattern.Pat.{Pat}
use Rattle.rb_core.specs.Meaning.{construction_outcome}
use Rattle.rb_target.specs.Meaning.{World, CallEnd as Run}
use Rattle.rb_target.specs.Sheet.{Sheet}
use Rattle.rb_layout.specs.declared.agreed.LaidOut.{LaidOut}
use Rattle.rb_rel.specs.Placing.{Laid, Fits, Over, blocks_of, lay}
use Rattle.rb_rel.specs.Switches.{choose_of}
use Rattle.rb_fragment.specs.declared.held.Held.{Held}
use Rattle.rb_fragment.specs.Plan.{Plan, cost_at, cost_of_built}
use Rattle.rb_fragment.specs.Owing.{Does, Ends}
use Rattle.rb_fragment.specs.Fragments.{Applies, Comes}
use Rattle.rb_fragment.proofs.Laying.{event_fits, event_over}
use Rattle.rb_fragment.proofs.Moves.{one-from}
use Rattle.rb_fetch.specs.Constructing.{AreAsShown, Constructs, IsConstructed}
use Rattle.rb_build.specs.Building.{Builds}

module _ (plan : Plan) (con : ConRef) (vs : List Value) (out : Run) (w : World) (Ok : Value → World → Type 0) (Same : World → Type 0) where
  abbrev v : Value
  v = Con con.con vs

  abbrev event : Event
  event = Built con.ty v

  -- what the event may cost
  cost : cost_at plan event ≡ choose_of plan.layouts con.ty con.con
  cost = ap (cost_of_built plan.layouts con.ty) (outs-Con con.con vs)

  paid : (l : Laid) → lay w.memory.limit w.memory.next (blocks_of plan.layouts con.ty v) ≡ l
      → Ends (w.switches + choose_of plan.layouts con.ty con.con) out w.memory l (Done v w.left) (λ u w'. Ok u w' × Same w') → Does plan w.switches out w.memory (construction_outcome con vs w.left) Ok
  paid (Over full) is r = let few = r.2 in let same = cost in event_over plan w.switches out w.memory event v w.left full r.0 Ok is r.1 (omega (arith, few, same))
  paid (Fits bs top) is r = let few = r.3 in let same = cost in event_fits plan w.switches out w.memory event v w.left top bs r.0 Ok is r.1 r.2 (omega (arith, few, same)) r.4.0

builds_shown : (plan : Plan) (con : ConRef) (hs : List Held) (shown : List Pat) (old new : Sheet) (held : Held) → IsConstructed plan con hs shown old new held → Applies plan (AreAsShown shown) (λ calls. construction_outcome con) hs old new (Named con.ty) held.slots
builds_shown plan con hs shown old new held made = record {
  adds = made.adds;
  given = made.given;
  count = made.count;
  fresh = λ x i. one-from old.slots x held.slots made.fresh i;
  does = λ calls clean vs as_shown. record {
    runs = λ final callee next law rel agrees s w long good pre.
        let out = next (length old.code) s w in
        paid plan con vs out w (Comes plan clean out next (length new.code) old.slots (Named con.ty) held.slots s) (λ w'. blocks_of plan.layouts con.ty (Con con.con vs) ≡ [] → w'.memory ≡ w.memory)
        (lay w.memory.limit w.memory.next (blocks_of plan.layouts con.ty (Con con.con vs))) refl (made.does clean vs as_shown final callee next law agrees s w long good pre);
  };
}

pub builds : (agreed : LaidOut) (con : ConRef) (hs : List Held) (shown : List Pat) (old new : Sheet) (held : Held) → Constructs agreed con hs shown old new held → Builds agreed con hs shown old new held
builds agreed con hs shown old new held constructs plan of fields is kinds given =
    let made = constructs plan of fields is kinds given in (made.kind, builds_shown plan con hs shown old new held made)
