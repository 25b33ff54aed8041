-- What callers see of digits that were read.
use Rattle.bx_read.specs.PlainWindow.{PlainView}
use Rattle.bx_read.specs.declared.plain_window.digits.DigitsRead.{DigitsRead}

-- the digits by their fields
abbrev pub plain_view : {A : Type 0} → DigitsRead A → PlainView
plain_view read = record { bytes = read.bytes.items; half = read.half; passed = read.passed; last = read.last; fault = read.fault }
