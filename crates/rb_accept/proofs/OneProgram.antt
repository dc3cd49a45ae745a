-- A text has at most one program, and a text that has one is not refused.
use Rattle.std.proofs.Common.{◌≡◌, inl, inr, ℕ, List, [], ◌∷◌, ◌++◌, IsSome, Option, Some, None, Result, Ok, Err, refl, sym, ap, subst, ◌∙◌}
use Rattle.std.proofs.lemmas.Bool.{false≢true}
use Rattle.rb_auto.specs.declared.fault.AutoFault.{AutoFault}
use Rattle.rb_check.specs.Covering.{IsCoverFault}
use Rattle.rb_check.specs.declared.coverage.CoverFault.TheVariants.{Missing}
use Rattle.rb_core.specs.Coverage.{AreExhaustive, sites_of}
use Rattle.rb_core.specs.Matching.{IsExhaustive, chosen_clause}
use Rattle.rb_core.specs.TypedPrograms.{IsTyped, IsFirstFault}
use Rattle.rb_core.specs.declared.site.Site.{Site}
use Rattle.rb_core.specs.declared.pattern.Pat.{Pat}
use Rattle.rb_core.specs.declared.program.Program.{Program}
use Rattle.rb_core.specs.declared.types.DataDecl.{DataDecl}
use Rattle.rb_core.specs.declared.typing.TypeFault.{TypeFault}
use Rattle.rb_core.specs.declared.typing.TypeFault.TheVariants as types
use Rattle.rb_layout.proofs.Disjoint.{not_beside}
use Rattle.rb_layout.proofs.Places.{places_are_all}
use Rattle.rb_layout.specs.Agreement.{Agrees}
use Rattle.rb_layout.specs.Flattening.{flat_layouts}
use Rattle.rb_layout.specs.Spots.{Spot, Checked, IsRefusedBy, all_spots}
use Rattle.rb_layout.specs.declared.evidence.Refused.{Refused as Disagreed}
use Rattle.rb_layout.specs.declared.evidence.Why.{Why}
use Rattle.rb_layout.specs.declared.layout.Layout.{Layout}
use Rattle.rb_lines.specs.Answer.{Due}
use Rattle.rb_names.specs.Completing.{IsCompleted}
use Rattle.rb_names.specs.Numbering.{Resolved}
use Rattle.rb_names.specs.Programs.{program_of}
use Rattle.rb_names.specs.declared.complete.Completed.{Completed}
use Rattle.rb_read.proofs.OneAnswer.{answered}
use Rattle.rb_read.specs.Files.{IsFileAnswer}
use Rattle.rb_read.specs.declared.fault.ReadFault.{ReadFault}
use Rattle.rb_syntax.specs.Cutting.{HasTokens}
use Rattle.rb_syntax.specs.Tokens.{tokens}
use Rattle.rb_syntax.specs.declared.lex.LexFault.{LexFault}
use Rattle.rb_syntax.specs.declared.lex.LexFault.TheVariants as lexing
use Rattle.rb_syntax.specs.declared.token.Placed.{Placed}
use Rattle.rb_syntax.specs.declared.token.Token.{Token}
use Rattle.rb_syntax.specs.declared.tree.FileTree.{FileTree}
use Rattle.rb_accept.specs.Accepting.{FileIsRead, IsNamedWith, IsNamed, IsProgramOf, completed_as, IsAccepted, IsUncut, IsRefused, uncut, misread, misnamed, mistyped, uncovered, underived, mislaid}
use Rattle.rb_accept.proofs.OneCompletion.{one_completion}
use Rattle.rb_accept.proofs.OneCut.{one_cut, never_bad, never_wide}

-- what has tokens is cut to its end

pub never_uncut : (bytes : List ℕ) (placed : List Placed) (fault : LexFault) → HasTokens bytes placed → IsUncut bytes fault → ⊥
never_uncut bytes placed (lexing.BadByte at) h k = never_bad bytes placed at h k
never_uncut bytes placed (lexing.NumberTooWide at) h k = never_wide bytes placed at h k
never_uncut bytes placed lexing.Memory h k = k

-- the same tree

the_file : FileTree → Result FileTree ReadFault → FileTree
the_file file (Ok other) = other
the_file file (Err fault) = file

pub one_file : (ts : List Token) (file other : FileTree) → IsFileAnswer ts (Ok file) → IsFileAnswer ts (Ok other) → file ≡ other
unfolding the_file
one_file ts file other h k = elim (answered ts (Ok file) (Ok other) h k) [
  | inl e ↦ ap (λ (r : Result FileTree ReadFault). the_file file r) e
  | inr e ↦ absurd (cc e)
]

never_misread : (ts : List Token) (file : FileTree) (fault : ReadFault) → IsFileAnswer ts (Ok file) → IsFileAnswer ts (Err fault) → ⊥
never_misread ts file fault h k = elim (answered ts (Ok file) (Err fault) h k) [
  | inl e ↦ absurd (cc e)
  | inr e ↦ absurd (cc e)
]

same_file : (bytes : List ℕ) (placed : List Placed) (qs : List Placed) (file other : FileTree) → FileIsRead bytes placed file → FileIsRead bytes qs other → file ≡ other
same_file bytes placed qs file other h k =
    let same : qs ≡ placed = one_cut bytes qs placed k.cut h.cut in
    one_file (tokens placed) file other h.tree (subst (λ (ps : List Placed). IsFileAnswer (tokens ps) (Ok other)) same k.tree)

-- the same program

the_program : Program → Resolved Program → Program
the_program p (Ok q) = q
the_program p (Err fault) = p

same_written : (file : FileTree) (p q : Program) → program_of file ≡ Ok p → program_of file ≡ Ok q → p ≡ q
unfolding the_program
same_written file p q h k = ap (λ (r : Resolved Program). the_program p r) (sym h ∙ k)

-- completed in the same way

same_completed : (bytes : List ℕ) (placed qs : List Placed) (c d : Completed) → IsNamedWith bytes placed c → IsNamedWith bytes qs d → c ≡ d
same_completed bytes placed qs c d h k =
    let file : k.file ≡ h.file = same_file bytes qs placed k.file h.file k.read h.read in
    let named : program_of h.file ≡ Ok k.written = subst (λ (f : FileTree). program_of f ≡ Ok k.written) file k.named in
    let written : k.written ≡ h.written = same_written h.file k.written h.written named h.named in
    let here : IsCompleted h.file k.written d = subst (λ (f : FileTree). IsCompleted f k.written d) file k.completed in
    one_completion h.file h.written c d h.completed (subst (λ (p : Program). IsCompleted h.file p d) written here)

same_program : (bytes : List ℕ) (placed qs : List Placed) (p q : Program) → IsNamed bytes placed p → IsProgramOf bytes qs q → p ≡ q
same_program bytes placed qs p q h k = ap (λ (c : Completed). c.program) (same_completed bytes placed qs (completed_as p None) (completed_as q k.0) h k.1)

pub one_program : (bytes : List ℕ) (p q : Program) → IsAccepted bytes p → IsAccepted bytes q → p ≡ q
one_program bytes p q a b = same_program bytes a.placed b.placed p q a.named (None, b.named)

never_underived : (bytes : List ℕ) (placed qs : List Placed) (p q : Program) (fault : AutoFault) → IsNamed bytes placed p
    → IsNamedWith bytes qs (completed_as q (Some fault)) → ⊥
never_underived bytes placed qs p q fault h k =
    let none : None ≡ Some fault =
    ap (λ (c : Completed). c.refused) (same_completed bytes placed qs (completed_as p None) (completed_as q (Some fault)) h k) in
    absurd (cc none)

-- what is typed has no first fault, and where matches are exhaustive none misses a pattern

never_mistyped : (p : Program) (fault : TypeFault) → (fault ≡ types.Memory → ⊥) → IsTyped p → IsFirstFault p fault → ⊥
never_mistyped p (types.Empty t) known typed first =
    let has = typed.values t first.declared in
    false≢true (sym (first.empty has.0) ∙ has.1)
never_mistyped p types.Memory known typed first = known refl
never_mistyped p (types.Mismatch t wanted found) known typed first = absurd (cc (sym typed.rules ∙ first.1))
never_mistyped p (types.Arity t wanted found) known typed first = absurd (cc (sym typed.rules ∙ first.1))
never_mistyped p (types.VariableTwice t) known typed first = absurd (cc (sym typed.rules ∙ first.1))

site_in : (ts : List DataDecl) (before : List Site) (s : Site) (after : List Site) → AreExhaustive ts (before ++ s ∷ after) → IsExhaustive ts s.scrutinee s.patterns
site_in ts [] s after h = h.0
site_in ts (b ∷ bs) s after h = site_in ts bs s after h.1

none_chosen : (o : Option ℕ) → o ≡ None → IsSome o → ⊥
none_chosen None e h = absurd (false≢true h)
none_chosen (Some n) e h = absurd (cc e)

never_uncovered : (p : Program) (t : ℕ) (q : Pat) → AreExhaustive p.types (sites_of p) → IsCoverFault p (Missing t q) → ⊥
never_uncovered p t q h fault =
    let here = site_in p.types fault.before fault.site fault.after (subst (λ (ss : List Site). AreExhaustive p.types ss) fault.order h) in
    let missing = fault.refused.1 in
    none_chosen (chosen_clause fault.site.patterns missing.value) (missing.none missing.value missing.typed missing.matched)
    (here missing.value missing.typed)

-- layouts that agree are not refused

never_found : (p : Program) (layouts : List Layout) (spots : List Spot) (found : Spot × Why) → Checked p layouts spots None → Checked p layouts spots (Some found) → ⊥
never_found p layouts [] found h k = absurd k
never_found p layouts (s ∷ ss) found h (inl k) = not_beside p layouts s found.1 h.0 k.1
never_found p layouts (s ∷ ss) found h (inr k) = never_found p layouts ss found h.1 k.1

never_mislaid : (p : Program) (fault : Disagreed) → Agrees p → IsRefusedBy p (flat_layouts p) fault → ⊥
never_mislaid p fault h refused =
    never_found p (flat_layouts p) (all_spots p (flat_layouts p)) (refused.0, fault.why) ((places_are_all p (flat_layouts p)).1 h) refused.1

pub accepted_unrefused : (bytes : List ℕ) (p : Program) (due : Due) → IsAccepted bytes p → IsRefused bytes due → ⊥
accepted_unrefused bytes p due a (uncut fault cut e) = never_uncut bytes a.placed fault a.named.read.cut cut
accepted_unrefused bytes p due a (misread placed cut fault answer e) =
    let same : placed ≡ a.placed = one_cut bytes placed a.placed cut a.named.read.cut in
    never_misread (tokens a.placed) a.named.file fault a.named.read.tree (subst (λ (ps : List Placed). IsFileAnswer (tokens ps) (Err fault)) same answer)
accepted_unrefused bytes p due a (misnamed placed file read fault named e) =
    let same : file ≡ a.named.file = same_file bytes placed a.placed file a.named.file read a.named.read in
    absurd (cc (sym a.named.named ∙ ap (λ (f : FileTree). program_of f) (sym same) ∙ named))
accepted_unrefused bytes p due a (mistyped placed q named fault known first e) =
    let same : p ≡ q = same_program bytes a.placed placed p q a.named named in
    never_mistyped q fault known (subst (λ (x : Program). IsTyped x) same a.typed) first
accepted_unrefused bytes p due a (uncovered placed q named typed t pat fault e) =
    let same : p ≡ q = same_program bytes a.placed placed p q a.named named in
    never_uncovered q t pat (subst (λ (x : Program). AreExhaustive x.types (sites_of x)) same a.exhaustive) fault
accepted_unrefused bytes p due a (underived placed q fault named typed exhaustive e) = never_underived bytes a.placed placed p q fault a.named named
accepted_unrefused bytes p due a (mislaid placed q named typed exhaustive fault refused e) =
    let same : p ≡ q = same_program bytes a.placed placed p q a.named (None, named) in
    never_mislaid q fault (subst (λ (x : Program). Agrees x) same a.agrees) refused
