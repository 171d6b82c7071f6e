-- What a fault of a sheet tells: its number, its line and its word; word 0 is the whole line, line 0 the whole sheet.
use Rattle.std.specs.Prelude.{ℕ}
use Rattle.text.specs.declared.faults.WordFault.{WordFault}
use Rattle.text.specs.declared.faults.WordFault.TheVariants.{NotNumber, TooLarge, OutOfRange, WrongLetter, NoRows}
use Rattle.text.specs.declared.faults.LineFault.{LineFault}
use Rattle.text.specs.declared.faults.LineFault.TheVariants.{Lacking, Shape, NotRising, TooManySteps, Word}
use Rattle.sheets.specs.declared.faults.SheetFault.{SheetFault}
use Rattle.text.specs.declared.slip.Slip.{Slip}
use Rattle.sheets.specs.declared.faults.SheetFault.TheVariants.{ListTooShort, TooLong, Line}

abbrev pub word_number : WordFault → ℕ
word_number NotNumber = 1
word_number TooLarge = 2
word_number OutOfRange = 4
word_number WrongLetter = 5
word_number NoRows = 6

abbrev pub line_number : LineFault → ℕ
line_number Shape = 3
line_number NotRising = 7
line_number TooManySteps = 8
line_number Lacking = 9
line_number (Word at) = word_number at.fault

abbrev pub word_of : LineFault → ℕ
word_of Shape = 0
word_of NotRising = 0
word_of TooManySteps = 0
word_of Lacking = 0
word_of (Word at) = at.number

abbrev pub slip : ℕ → ℕ → ℕ → Slip
slip n l w = record { number = n; line = l; word = w }

abbrev pub told : SheetFault → Slip
told TooLong = slip 10 0 0
told ListTooShort = slip 11 0 0
told (Line at) = slip (line_number at.fault) at.number (word_of at.fault)
