-- Texts grow at their end.
use Rattle.std.proofs.Common.{◌≡◌, ℕ, ◌+◌, ◌<◌, List, [], ◌∷◌, ◌++◌, length, take, get_or, refl, sym, ap, ◌∙◌, append_assoc, append-nil}
use Rattle.std.proofs.lemmas.List.{take_more}
use Rattle.rb_target.specs.Text.{line_word_text, pairs, spaced_text, instr_text, body_text, fun_text, code_text}
use Rattle.rb_target.specs.declared.instr.SwitchArm.{SwitchArm}
use Rattle.rb_target.specs.declared.instr.Instr.{Instr}
use Rattle.rb_target.specs.declared.word.LineWord.{LineWord}
use Rattle.rb_target.specs.declared.word.LineWord.TheVariants.{Number}
use Rattle.rb_target.specs.declared.code.CodeFun.{CodeFun}

pub spaced_text-push : (ws : List LineWord) (w : LineWord) → spaced_text (ws ++ w ∷ []) ≡ spaced_text ws ++ 32 ∷ line_word_text w
spaced_text-push [] w = ap (λ t. 32 ∷ t) (append-nil (line_word_text w))
spaced_text-push (x ∷ ws) w = ap (λ t. 32 ∷ line_word_text x ++ t) (spaced_text-push ws w) ∙ sym (append_assoc (32 ∷ line_word_text x) (spaced_text ws) (32 ∷ line_word_text w))

pub spaced_text_more : (ws : List LineWord) (k : ℕ) (d : LineWord) → k < length ws → spaced_text (take (k + 1) ws) ≡ spaced_text (take k ws) ++ 32 ∷ line_word_text (get_or ws k d)
spaced_text_more ws k d lt = ap spaced_text (take_more ws k d lt) ∙ spaced_text-push (take k ws) (get_or ws k d)

pub pairs-push : (arms : List SwitchArm) (arm : SwitchArm) → pairs (arms ++ arm ∷ []) ≡ pairs arms ++ Number arm.number ∷ Number arm.target ∷ []
pairs-push [] arm = refl
pairs-push (x ∷ arms) arm = ap (λ t. Number x.number ∷ Number x.target ∷ t) (pairs-push arms arm)

pub pairs_more : (arms : List SwitchArm) (k : ℕ) (d : SwitchArm) → k < length arms → pairs (take (k + 1) arms) ≡ pairs (take k arms) ++ Number (get_or arms k d).number ∷ Number (get_or arms k d).target ∷ []
pairs_more arms k d lt = ap pairs (take_more arms k d lt) ∙ pairs-push (take k arms) (get_or arms k d)

pub body_text-push : (is : List Instr) (i : Instr) → body_text (is ++ i ∷ []) ≡ body_text is ++ instr_text i
body_text-push [] i = append-nil (instr_text i)
body_text-push (x ∷ is) i = ap (λ t. instr_text x ++ t) (body_text-push is i) ∙ sym (append_assoc (instr_text x) (body_text is) (instr_text i))

pub body_text_more : (is : List Instr) (k : ℕ) (d : Instr) → k < length is → body_text (take (k + 1) is) ≡ body_text (take k is) ++ instr_text (get_or is k d)
body_text_more is k d lt = ap body_text (take_more is k d lt) ∙ body_text-push (take k is) (get_or is k d)

pub code_text-push : (fs : List CodeFun) (f : CodeFun) → code_text (fs ++ f ∷ []) ≡ code_text fs ++ fun_text f
code_text-push [] f = append-nil (fun_text f)
code_text-push (x ∷ fs) f = ap (λ t. fun_text x ++ t) (code_text-push fs f) ∙ sym (append_assoc (fun_text x) (code_text fs) (fun_text f))

pub code_text_more : (fs : List CodeFun) (k : ℕ) (d : CodeFun) → k < length fs → code_text (take (k + 1) fs) ≡ code_text (take k fs) ++ fun_text (get_or fs k d)
code_text_more fs k d lt = ap code_text (take_more fs k d lt) ∙ code_text-push (take k fs) (get_or fs k d)

-- four pieces one after the other
pub four : {X : Type 0} (t0 t1 t2 t3 t4 a b c d : List X) → t1 ≡ t0 ++ a → t2 ≡ t1 ++ b → t3 ≡ t2 ++ c → t4 ≡ t3 ++ d → t4 ≡ t0 ++ (((a ++ b) ++ c) ++ d)
four t0 t1 t2 t3 t4 a b c d e1 e2 e3 e4 =
    e4 ∙ ap (λ t. t ++ d) (e3 ∙ ap (λ t. t ++ c) (e2 ∙ ap (λ t. t ++ b) e1 ∙ append_assoc t0 a b) ∙ append_assoc t0 (a ++ b) c) ∙ append_assoc t0 ((a ++ b) ++ c) d
