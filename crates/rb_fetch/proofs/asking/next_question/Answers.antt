use Rattle.std.proofs.Common.{sym, subst}
use Rattle.rb_fetch.specs.declared.heads.Place.{Place}
use Rattle.rb_fetch.specs.inner.Asking.{IsAskedOf}
use Rattle.rb_fetch.specs.inner.Heads.{IsNext}
use Rattle.rb_fetch.proofs.asking.next_question.Goals as goal

pub returns-in-None : goal.returns-in-None
returns-in-None c = record {
  places = c.in_ok-places.places;
  has = record {
    sound = record { typed = rw c.covered.ensures.same at c.program-typed.ensures.typed; flat = c.layouts.ensures.flat; agrees = c.layouts.ensures.agree };
    leaf = c.in-Some.found.now;
    is_leaf = rw c.layouts.ensures.same at (sym c.in-Some.ensures);
    are_places = c.in_ok-places.ensures;
  };
  looked = rw (c.as_slice.ensures, c.as_slice-2.ensures) at c.in-None.ensures;
}

pub returns : goal.returns
returns c =
    let asked = c.in_ok-question-in-Some-next_place.ensures in
    let next = rw (c.as_slice.ensures, c.as_slice-2.ensures) at c.in-Some-next_place.ensures in
    let question = c.in_ok-question-in-Some-next_place.question in
    record {
      places = c.in_ok-places.places;
      has = record {
        sound = record { typed = rw c.covered.ensures.same at c.program-typed.ensures.typed; flat = c.layouts.ensures.flat; agrees = c.layouts.ensures.agree };
        leaf = c.in-Some.found.now;
        is_leaf = rw c.layouts.ensures.same at (sym c.in-Some.ensures);
        are_places = c.in_ok-places.ensures;
      };
      next = subst (λ (p : Place). IsNext c.args.seen.now.looked c.in_ok-places.places p) (sym asked.is_place) next;
      is_asked = subst (λ (p : Place). IsAskedOf c.args.agreed.now p c.args.parts.now c.args.seen.now question) (sym asked.is_place) asked;
    }
