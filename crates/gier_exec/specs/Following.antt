-- How what a part of the machine answers stands to a row of the order table. Such a part goes on with what it found, and
-- so does the row; or the order isn't allowed, and so by the row.
use Rattle.std.specs.Prelude.{◌≡◌, ◌+◌, ◌&&◌, ℕ, Bool, nat_lt, nat_le, max, if◌then◌else◌, List, length, slice_index, Result, Ok}
use Rattle.std.specs.Prelude.{Err}
use Rattle.gier_frames.specs.State.{State}
use Rattle.gier_frames.specs.declared.halt.Halt.{Halt}
use Rattle.gier_frames.specs.declared.halt.Halt.TheVariants.{Alarm as HaltAlarm, Odd as HaltOdd}
use Rattle.gier_order.specs.Flat.Row.{Regs, Ended as HasEnded, Alarmed, NoSteps, On, Ends, Row, plain, odd, needs}
use Rattle.gier_order.specs.Flat.Rows.{word_at, pays}
use Rattle.gier_exec.specs.Registers.{Registers}
use Rattle.gier_exec.specs.declared.stop.Stop.{Stop}
use Rattle.gier_exec.specs.declared.stop.Stop.TheVariants.{Ended, Alarm, Steps, Odd}

-- what refuses a call of the frames ends an order so
abbrev pub stop_of : Halt → Stop
stop_of (HaltAlarm alarm) = Alarm alarm
stop_of HaltOdd = Odd

-- the row is odd, as the part is; no part that only finds something stops otherwise
abbrev pub RefinesRefusal : Row → Stop → Type 0
RefinesRefusal row Ended = ⊥
RefinesRefusal row (Alarm alarm) = ⊥
RefinesRefusal row Steps = ⊥
RefinesRefusal row Odd = row ≡ odd

-- the row goes on with what was found
abbrev pub RefinesValue : {A : Type 0} → Row → (A → Row) → Result A Stop → Type 0
RefinesValue row go (Ok x) = row ≡ go x
RefinesValue row go (Err stop) = RefinesRefusal row stop

-- the row comes to these registers where an order stops or is odd
abbrev pub RefinesStop : Row → Regs → Stop → Type 0
RefinesStop row regs Ended = row ≡ plain (Ends HasEnded regs)
RefinesStop row regs (Alarm alarm) = row ≡ plain (Ends (Alarmed alarm) regs)
RefinesStop row regs Steps = row ≡ plain (Ends NoSteps regs)
RefinesStop row regs Odd = row ≡ odd

-- the row goes on at an address, or halts
abbrev pub RefinesJump : Row → Regs → Result ℕ Stop → Type 0
RefinesJump row regs (Ok next) = row ≡ plain (On (record regs { place = next }))
RefinesJump row regs (Err stop) = RefinesStop row regs stop

-- the row goes on with the order after, or halts
abbrev pub RefinesNext : Row → Regs → Result (Unit {0}) Stop → Type 0
RefinesNext row regs (Ok done) = row ≡ plain (On (record regs { place = regs.place + 1 }))
RefinesNext row regs (Err stop) = RefinesStop row regs stop

-- the row gives a word to R and goes on with the order after, or halts
abbrev pub RefinesResult : Row → Regs → Result ℕ Stop → Type 0
RefinesResult row regs (Ok word) = row ≡ plain (On (record regs { r = word; place = regs.place + 1 }))
RefinesResult row regs (Err stop) = RefinesStop row regs stop

-- GO where R is not 0
abbrev pub go_row : (code : List ℕ) (size : ℕ) (m : Regs) → Row
go_row code size m = word_at code size m (m.q + 2) (λ top.
    needs (nat_le top size && nat_lt m.r (length code)) (pays code size m m.left m.r (record m {
      base = m.q;
      top = top;
      greatest = max m.greatest top;
    })))

-- the word at a place, where that is one of the stack's
abbrev pub word_of : State → ℕ → Result ℕ Stop
word_of s place = if nat_lt place (length s.words) then Ok (slice_index s.words place) else Err Odd

-- some activation can be left, and the order to return to is one of so many words
abbrev pub can_return : (words : ℕ) → Registers → State → Bool
can_return words m s = nat_lt 0 m.depth && (nat_lt (s.base + 3) (length s.words) && nat_lt (slice_index s.words (s.base + 3)) words)
