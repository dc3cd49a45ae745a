-- What frames have still to write.
use Rattle.std.proofs.Common.{◌≡◌, ℕ, ◌+◌, ◌<◌, List, [], ◌∷◌, ◌++◌, length, map, sum, drop, arith, ◌∙◌, ap, sym, append_assoc, add-one}
use Rattle.std.proofs.lemmas.Grind.{common_steps}
use Rattle.std.proofs.lemmas.List.{append-nil}
use Rattle.std.proofs.Math.Seq.{drop-cons}
use Rattle.rb_core.specs.declared.value.Value.{Value, Num, Con}
use Rattle.rb_core.specs.declared.types.Ty.{Ty}
use Rattle.rb_core.specs.declared.types.DataDecl.{DataDecl}
use Rattle.rb_core.specs.Texts.{con_text}
use Rattle.rb_core.specs.Values.{subs, node_count, nodes_step}
use Rattle.rb_core.proofs.ValueLaws.{fold-Num, fold-Con}
use Rattle.rb_values.specs.Nodes.{at}
use Rattle.rb_values.specs.declared.print.Frame.{Frame}
use Rattle.std.specs.Fmt.{decimal}
use Rattle.rb_values.specs.Texts.{con_ref, field_of, before, after_last, fields_text, text_step, text_of}
use Rattle.rb_values.specs.inner.Printing.{frame_text, text_to_write, frame_work, work, IsFrame, AreFrames, Opened, Turned}

pub pending-push : (types : List DataDecl) (vs : List Value) (fs : List Frame) (f : Frame) → text_to_write types vs (fs ++ f ∷ []) ≡ frame_text types vs f ++ text_to_write types vs fs
pending-push types vs [] f = sym (append-nil (frame_text types vs f))
pending-push types vs (g ∷ fs) f = ap (λ (l : List ℕ). l ++ frame_text types vs g) (pending-push types vs fs f) ∙ append_assoc (frame_text types vs f) (text_to_write types vs fs) (frame_text types vs g)

work-cons : (vs : List Value) (f : Frame) (fs : List Frame) → work vs (f ∷ fs) ≡ frame_work vs f + work vs fs
work-cons vs f fs = grind (arith, common_steps)

pub nodes-cons : (v : Value) (vs : List Value) → sum (map node_count (v ∷ vs)) ≡ node_count v + sum (map node_count vs)
nodes-cons v vs = grind (arith, common_steps)

drop_next : (vs : List Value) (i : ℕ) → i < length vs → drop i vs ≡ at vs i ∷ drop (i + 1) vs
drop_next vs i h = rw (add-one i) (drop-cons vs i (Num 0) h)

pub work-push : (vs : List Value) (fs : List Frame) (f : Frame) → work vs (fs ++ f ∷ []) ≡ work vs fs + frame_work vs f
work-push vs [] f = omega (arith, work-cons vs f [])
work-push vs (g ∷ fs) f = let e = work-push vs fs f in omega (arith, e, work-cons vs g (fs ++ f ∷ []), work-cons vs g fs)

pub frames-push : (vs : List Value) (fs : List Frame) (f : Frame) → AreFrames vs fs → IsFrame vs f → AreFrames vs (fs ++ f ∷ [])
frames-push vs [] f a b = (b, tt)
frames-push vs (g ∷ fs) f a b = (a.0, frames-push vs fs f a.1 b)

pub frames-pop : (vs : List Value) (fs : List Frame) (f : Frame) → AreFrames vs (fs ++ f ∷ []) → AreFrames vs fs × IsFrame vs f
frames-pop vs [] f a = (tt, a.0)
frames-pop vs (g ∷ fs) f a = let r = frames-pop vs fs f a.1 in ((a.0, r.0), r.1)

pub text-Num : (types : List DataDecl) (v : Value) (n : ℕ) (ty : Ty) → v ≡ Num n → text_of types v ty ≡ decimal n
text-Num types v n ty e = ap (λ (v : Value). text_of types v ty) e ∙ ap (λ (f : Ty → List ℕ). f ty) (fold-Num (Ty → List ℕ) (text_step types) n)

pub text-Con : (types : List DataDecl) (v : Value) (k : ℕ) (ty : Ty) → v ≡ Con k (subs v) →
    text_of types v ty ≡ con_text types (con_ref ty k) ++ fields_text (field_of types (con_ref ty k)) 0 (map (text_of types) (subs v))
text-Con types v k ty e = ap (λ (v : Value). text_of types v ty) e ∙ ap (λ (f : Ty → List ℕ). f ty) (fold-Con (Ty → List ℕ) (text_step types) k (subs v))

pub count-Num : (v : Value) (n : ℕ) → v ≡ Num n → node_count v ≡ 1
count-Num v n e = ap node_count e ∙ fold-Num ℕ nodes_step n

pub count-Con : (v : Value) (k : ℕ) → v ≡ Con k (subs v) → node_count v ≡ 1 + sum (map node_count (subs v))
count-Con v k e = ap node_count e ∙ fold-Con ℕ nodes_step k (subs v)

pub opened_number : (types : List DataDecl) (vs : List Value) (node n : ℕ) (ty : Ty) (fs : List Frame) (out written : List ℕ) →
    at vs node ≡ Num n → written ≡ out ++ decimal n → Opened types vs node ty fs fs out written
opened_number types vs node n ty fs out written e w = record {
  frames = λ a. a;
  text = rw (w, text-Num types (at vs node) n ty e) (append_assoc out (decimal n) (text_to_write types vs fs));
  less = let c = count-Num (at vs node) n e in omega (arith, c);
}

pub opened_con : (types : List DataDecl) (vs : List Value) (node k : ℕ) (ty : Ty) (fs : List Frame) (out written : List ℕ) → node < length vs →
    at vs node ≡ Con k (subs (at vs node)) → written ≡ out ++ con_text types (con_ref ty k) →
    Opened types vs node ty fs (fs ++ record { node = node; con = con_ref ty k; next = 0 } ∷ []) out written
opened_con types vs node k ty fs out written h e w =
    let f : Frame = record { node = node; con = con_ref ty k; next = 0 } in
    let name : List ℕ = con_text types (con_ref ty k) in
    let t : text_of types (at vs node) ty ≡ name ++ frame_text types vs f = text-Con types (at vs node) k ty e in
    record {
      frames = λ a. frames-push vs fs f a (h, omega arith);
      text = rw (w, t, pending-push types vs fs f) (append_assoc out name (frame_text types vs f ++ text_to_write types vs fs) ∙ ap (λ (l : List ℕ). out ++ l) (sym (append_assoc name (frame_text types vs f) (text_to_write types vs fs))));
      less = let c = count-Con (at vs node) k e in let p = work-push vs fs f in omega (arith, c, p);
    }

pub turned_end : (types : List DataDecl) (vs : List Value) (f : Frame) (fs : List Frame) (out written : List ℕ) → AreFrames vs fs →
    f.next ≡ length (subs (at vs f.node)) → written ≡ out ++ after_last f.next → Turned types vs f fs fs out written
turned_end types vs f fs out written a e w =
    let d : drop f.next (subs (at vs f.node)) ≡ [] = grind (arith, common_steps) in
    let t : frame_text types vs f ≡ after_last f.next = ap (λ (vs' : List Value). fields_text (field_of types f.con) f.next (map (text_of types) vs')) d in
    record {
      frames = a;
      text = rw (w, t) (append_assoc out (after_last f.next) (text_to_write types vs fs));
      less = omega arith;
    }

shuffle : (out mid sep text later below here all : List ℕ) → mid ≡ out ++ sep → here ≡ sep ++ (text ++ later) → all ≡ later ++ below →
    mid ++ (text ++ all) ≡ out ++ (here ++ below)
shuffle out mid sep text later below here all e f g = rw (e, f, g) (simp append_assoc)

pub turned_field : (types : List DataDecl) (vs : List Value) (f : Frame) (child : ℕ) (fs new : List Frame) (out mid written : List ℕ) → AreFrames vs fs → IsFrame vs f →
    f.next < length (subs (at vs f.node)) → at vs child ≡ at (subs (at vs f.node)) f.next → mid ≡ out ++ before f.next →
    Opened types vs child (field_of types f.con f.next) (fs ++ record { node = f.node; con = f.con; next = f.next + 1 } ∷ []) new mid written →
    Turned types vs f fs new out written
turned_field types vs f child fs new out mid written a b h e w o =
    let g : Frame = record { node = f.node; con = f.con; next = f.next + 1 } in
    let subvalues : List Value = subs (at vs f.node) in
    let d : drop f.next subvalues ≡ at vs child ∷ drop (f.next + 1) subvalues = rw e (drop_next subvalues f.next h) in
    let ty : Ty = field_of types f.con f.next in
    let t : frame_text types vs f ≡ before f.next ++ (text_of types (at vs child) ty ++ frame_text types vs g) =
    ap (λ (l : List Value). fields_text (field_of types f.con) f.next (map (text_of types) l)) d in
    let c : sum (map node_count (drop f.next subvalues)) ≡ node_count (at vs child) + sum (map node_count (drop (f.next + 1) subvalues)) = ap (λ (l : List Value). sum (map node_count l)) d ∙ nodes-cons (at vs child) (drop (f.next + 1) subvalues) in
    let p = work-push vs fs g in
    record {
      frames = o.frames (frames-push vs fs g a (b.0, omega arith));
      text = o.text ∙ shuffle out mid (before f.next) (text_of types (at vs child) ty) (frame_text types vs g) (text_to_write types vs fs) (frame_text types vs f) (text_to_write types vs (fs ++ g ∷ [])) w t (pending-push types vs fs g);
      less = omega (arith, c, p, o.less);
    }
