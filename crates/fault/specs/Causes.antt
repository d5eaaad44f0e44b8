-- The causes of a refusal: their numbers, and each in words.
use Rattle.std.specs.Prelude.{◌≡◌, ℕ, List, codes}
use Rattle.fault.specs.declared.cause.Cause.{Cause}
use Rattle.fault.specs.declared.cause.Cause.TheVariants.{FileTooLong, BadByte, BadLine, LongName, TooManyPins, TooManySignals, BadRow, SecondDriver, NoDriver, Cycle, BadField, NoSuchPart, EarlyAboveLate, NamedTwice, TooShort, LowLimit, NoPinGives}

abbrev pub number_of : Cause → ℕ
number_of FileTooLong = 1
number_of BadByte = 2
number_of BadLine = 3
number_of LongName = 4
number_of TooManyPins = 5
number_of TooManySignals = 6
number_of BadRow = 7
number_of SecondDriver = 8
number_of NoDriver = 9
number_of Cycle = 10
number_of BadField = 11
number_of NoSuchPart = 12
number_of EarlyAboveLate = 13
number_of NamedTwice = 14
number_of TooShort = 15
number_of LowLimit = 16
number_of NoPinGives = 17

abbrev pub sentence_of : Cause → List ℕ
sentence_of FileTooLong = codes "the file is too long"
sentence_of BadByte = codes "this byte may not stand in a netlist"
sentence_of BadLine = codes "this line is outside the rules, or `.end` is missing"
sentence_of LongName = codes "this name has over 32 bytes"
sentence_of TooManyPins = codes "this gate has over four pins"
sentence_of TooManySignals = codes "this name would be one signal too many"
sentence_of BadRow = codes "this row is wrong or misplaced"
sentence_of SecondDriver = codes "this signal has a driver already"
sentence_of NoDriver = codes "this signal has no driver"
sentence_of Cycle = codes "this signal would lie on a cycle"
sentence_of BadField = codes "this field is unknown, cut off, misplaced or of wrong length"
sentence_of NoSuchPart = codes "there is no such signal, pin, source or edge"
sentence_of EarlyAboveLate = codes "an early time is above its late time"
sentence_of NamedTwice = codes "this pin or source is named twice"
sentence_of TooShort = codes "a table or strip is too short"
sentence_of LowLimit = codes "the waiting list is too small for the signals"
sentence_of NoPinGives = codes "no pin gives this arrival"

-- a number stands for one cause
abbrev pub NumbersDiffer : Type 0
NumbersDiffer = (a b : Cause) → number_of a ≡ number_of b → a ≡ b
