-- The status of a read fault is due to no file that is refused, to no VALUEs and to no image.
use Rattle.std.proofs.Common.{◌≡◌, ◌≢◌, ℕ, List, length, sym, ap, ◌∙◌, arith}
use Rattle.rb_auto.specs.declared.fault.AutoFault.{AutoFault}
use Rattle.rb_auto.specs.declared.fault.AutoFault.TheVariants as auto
use Rattle.rb_core.specs.declared.program.Program.{Program}
use Rattle.rb_core.specs.declared.types.DataDecl.{DataDecl}
use Rattle.rb_core.specs.declared.typing.TypeFault.{TypeFault}
use Rattle.rb_core.specs.declared.typing.TypeFault.TheVariants as types
use Rattle.rb_image_text.specs.declared.fault.ImageFault.{ImageFault}
use Rattle.rb_image_text.specs.declared.fault.ImageFault.TheVariants as fault
use Rattle.rb_image_text.specs.declared.image.Image.{Image}
use Rattle.rb_lines.specs.Answer.{Due, status_of}
use Rattle.rb_lines.specs.ImageLines.{image_due as fault_due}
use Rattle.rb_names.specs.declared.fault.NameFault.{NameFault}
use Rattle.rb_names.specs.declared.fault.NameFault.TheVariants as names
use Rattle.rb_read.specs.declared.fault.ReadFault.{ReadFault}
use Rattle.rb_read.specs.declared.fault.ReadFault.TheVariants as reading
use Rattle.rb_syntax.specs.declared.lex.LexFault.{LexFault}
use Rattle.rb_syntax.specs.declared.lex.LexFault.TheVariants as lexing
use Rattle.rb_syntax.specs.declared.token.Placed.{Placed}
use Rattle.rb_accept.specs.Accepting.{IsAccepted, IsRefused, uncut, misread, misnamed, mistyped, uncovered, underived, mislaid, Accepts, turned_down, accepted, lex_due, read_due, name_due, type_due, derived_due}
use Rattle.rb_accept.specs.Arguments.{IsMisfit, miscounted, misspelled}
use Rattle.rb_accept.specs.Opening.{SpellsImage, garbled, spelled}

pub other_by : (due d : Due) → due ≡ d → status_of d ≢ 7 → status_of due ≢ 7
other_by due d is other e = other (ap (λ (x : Due). status_of x) (sym is) ∙ e)

-- Refused files -----------------------------------------------------------------------------

lex_other : (f : LexFault) → status_of (lex_due f) ≢ 7
lex_other (lexing.BadByte at) e = omega (arith, e)
lex_other (lexing.NumberTooWide at) e = omega (arith, e)
lex_other lexing.Memory e = omega (arith, e)

read_other : (placed : List Placed) (size : ℕ) (f : ReadFault) → status_of (read_due placed size f) ≢ 7
read_other placed size (reading.TooDeep t) e = omega (arith, e)
read_other placed size (reading.Syntax t) e = omega (arith, e)
read_other placed size (reading.Limit q count) e = omega (arith, e)
read_other placed size reading.Memory e = omega (arith, e)

name_other : (placed : List Placed) (size : ℕ) (f : NameFault) → status_of (name_due placed size f) ≢ 7
name_other placed size (names.Twice name t) e = omega (arith, e)
name_other placed size (names.Unknown name t) e = omega (arith, e)
name_other placed size names.NoMain e = omega (arith, e)
name_other placed size names.Memory e = omega (arith, e)

type_other : (ts : List DataDecl) (placed : List Placed) (size : ℕ) (f : TypeFault) → status_of (type_due ts placed size f) ≢ 7
type_other ts placed size (types.Empty t) e = omega (arith, e)
type_other ts placed size (types.Mismatch t wanted found) e = omega (arith, e)
type_other ts placed size (types.Arity t wanted found) e = omega (arith, e)
type_other ts placed size (types.VariableTwice t) e = omega (arith, e)
type_other ts placed size types.Memory e = omega (arith, e)

derived_other : (ts : List DataDecl) (f : AutoFault) → status_of (derived_due ts f) ≢ 7
derived_other ts (auto.PackedRecursive t) e = omega (arith, e)
derived_other ts (auto.PackedWide t bits) e = omega (arith, e)
derived_other ts auto.Memory e = omega (arith, e)

pub refused_other : (bytes : List ℕ) (due : Due) → IsRefused bytes due → status_of due ≢ 7
refused_other bytes due (uncut f h is) = other_by due _ is (lex_other f)
refused_other bytes due (misread placed h f k is) = other_by due _ is (read_other placed (length bytes) f)
refused_other bytes due (misnamed placed file h f k is) = other_by due _ is (name_other placed (length bytes) f)
refused_other bytes due (mistyped placed p h f k l is) = other_by due _ is (type_other p.types placed (length bytes) f)
refused_other bytes due (uncovered placed p h k t q l is) = other_by due _ is (λ e. omega (arith, e))
refused_other bytes due (underived placed p f h k l is) = other_by due _ is (derived_other p.types f)
refused_other bytes due (mislaid placed p h k l f m is) = other_by due _ is (λ e. omega (arith, e))

pub accepts_other : (bytes : List ℕ) (Then : (p : Program) → IsAccepted bytes p → Due → Type 0) (due : Due)
    → ((p : Program) (a : IsAccepted bytes p) → Then p a due → status_of due ≢ 7) → Accepts bytes Then due → status_of due ≢ 7
accepts_other bytes Then due other (turned_down h) = refused_other bytes due h
accepts_other bytes Then due other (accepted p a h) = other p a h

-- Arguments and images ----------------------------------------------------------------------

pub misfit_other : (p : Program) (words : List (List ℕ)) (due : Due) → IsMisfit p words due → status_of due ≢ 7
misfit_other p words due (miscounted ne is) = other_by due _ is (λ e. omega (arith, e))
misfit_other p words due (misspelled same m) = other_by due _ m.refused.shown (λ e. omega (arith, e))

pub fault_other : (f : ImageFault) → status_of (fault_due f) ≢ 7
fault_other (fault.ImageSyntax at) e = omega (arith, e)
fault_other (fault.ImageBlock i) e = omega (arith, e)
fault_other (fault.BadRoot i) e = omega (arith, e)
fault_other (fault.BadBits base place) e = omega (arith, e)
fault_other (fault.BadPointer base address) e = omega (arith, e)
fault_other fault.ImageTooLarge e = omega (arith, e)
fault_other (fault.NoSuchPart step) e = omega (arith, e)
fault_other fault.Memory e = omega (arith, e)

pub spells_other : (text : List ℕ) (Then : Image → Due → Type 0) (due : Due) → ((i : Image) → Then i due → status_of due ≢ 7) → SpellsImage text Then due → status_of due ≢ 7
spells_other text Then due other (garbled h) = other_by due _ h.shown (fault_other h.fault)
spells_other text Then due other (spelled i is placed h) = other i h
