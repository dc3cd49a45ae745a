use Rattle.rb_facts.specs.Threading.{AllFollow, LeadsOn}
use Rattle.rb_facts.proofs.threading.lead_on.Given as goal

abbrev pub invariant-loop-step : goal.invariant-loop-step
invariant-loop-step l = record {
  here : LeadsOn l.agreed l.ty l.pats l.nodes l.fn.known l.node l.here;
  end : LeadsOn l.agreed l.ty l.pats l.nodes l.fn.known l.node l.end;
  known : AllFollow l.agreed l.fn.known l.known;
}
