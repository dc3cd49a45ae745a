use Rattle.std.proofs.Common.{◌≡◌, refl, ap, inl}
use Rattle.std.proofs.lemmas.Result.{on_ok_weaker, on_err_weaker, IfOk-weaker}
use Rattle.rb_edge.specs.Faults.{Rose}
use Rattle.rb_edge.specs.FileSource.{SourceCounts, after_miss, after_failure}
use Rattle.rb_edge.proofs.FaultLemmas.{later, rose, on_ok, on_err, if_ok, untold, if_ok_on}
use Rattle.rb_edge.proofs.file_source.FileSourceSource.TheImpl.Goals as goal

pub open_file-tells : goal.open_file-tells
open_file-tells g c =
    let old : SourceCounts = c.args.self.now in
    let new : SourceCounts = c.new.self.now in
    let ok = on_ok_weaker c.result (λ e. ap (λ (s : SourceCounts). s.faults) e) c.ensures.ok in
    let fault = on_err_weaker c.result (λ (e : new ≡ after_miss old c.args.name.now). ap (λ (s : SourceCounts). s.faults) e) c.ensures.fault in
    record {
      same = record { tells_the_same = refl; holds_the_same = λ name. refl };
      later = later c.result old.faults new.faults ok fault;
      begun = on_ok_weaker c.result (λ e. ap (λ (s : SourceCounts). s.readings) e) c.ensures.ok;
      missed = on_err_weaker c.result (λ e. ap (λ (s : SourceCounts). s.readings) e) c.ensures.fault;
      opened = on_ok c.result untold;
      nothing_left = on_err c.result untold;
      cause = on_err_weaker c.result (λ (risen : Rose old.faults new.faults). inl risen) (rose c.result old.faults new.faults fault);
      not_held = untold;
      no_fault = untold;
    }

pub read-tells : goal.read-tells
read-tells g c =
    let old : SourceCounts = c.args.self.now in
    let new : SourceCounts = c.new.self.now in
    let fault = on_err_weaker c.result (λ (e : new ≡ after_failure old). ap (λ (s : SourceCounts). s.faults) e) c.ensures.fault in
    record {
      same = record { tells_the_same = refl; holds_the_same = λ name. refl };
      later = later c.result old.faults new.faults (if_ok_on c.result _ (λ n e. ap (λ (s : SourceCounts). s.faults) e) c.ensures.ok) fault;
      handed = IfOk-weaker c.result _ _ (λ n e. ap (λ (s : SourceCounts). s.readings) e) c.ensures.ok;
      broken = on_err_weaker c.result (λ e. ap (λ (s : SourceCounts). s.readings) e) c.ensures.fault;
      within = c.ensures.within;
      bytes = if_ok c.result _ (λ n. untold);
      err = on_err c.result untold;
      cause = rose c.result old.faults new.faults fault;
    }
