-- The text of replies (this project's choice). A text is a list of bytes.
use Rattle.std.specs.Prelude.{ℕ, Bool, List, ◌++◌, codes, if◌then◌else◌}
use Rattle.std.specs.Fmt.{decimal}
use Rattle.ms_base.specs.declared.step.Reply.{Reply}
use Rattle.ms_base.specs.declared.step.Reply.TheVariants.{Ok as Done, At, Value, Refused}
use Rattle.ms_base.specs.declared.refusal.Refusal.{Refusal}
use Rattle.ms_base.specs.declared.refusal.Refusal.TheVariants.{ZeroWords, TooLarge, CommitLimit, ReserveLimit, NotLive}
use Rattle.ms_base.specs.declared.refusal.Refusal.TheVariants.{OutOfRange, OutOfMemory, NoLoader, LoaderExists, NoBlock}
use Rattle.ms_base.specs.declared.refusal.Refusal.TheVariants.{BlockExists, IdsUsedUp, Unsettled, NoRoom}

-- The name of a refusal, without its numbers.
abbrev pub name_of : Refusal → List ℕ
name_of ZeroWords = codes "ZeroWords"
name_of TooLarge = codes "TooLarge"
name_of (CommitLimit committed limit need) = codes "CommitLimit"
name_of (ReserveLimit nodes limit) = codes "ReserveLimit"
name_of NotLive = codes "NotLive"
name_of (OutOfRange words) = codes "OutOfRange"
name_of OutOfMemory = codes "OutOfMemory"
name_of NoLoader = codes "NoLoader"
name_of LoaderExists = codes "LoaderExists"
name_of NoBlock = codes "NoBlock"
name_of BlockExists = codes "BlockExists"
name_of IdsUsedUp = codes "IdsUsedUp"
name_of (Unsettled opened gathered) = codes "Unsettled"
name_of (NoRoom level) = codes "NoRoom"

-- `ok`, `at A`, `value V` or `refused NAME`; where a block starts is shown only if addresses are
-- asked for.
abbrev pub reply_text : Bool → Reply → List ℕ
reply_text addresses Done = codes "ok"
reply_text addresses (At start) = if addresses then codes "at " ++ decimal start else codes "ok"
reply_text addresses (Value value) = codes "value " ++ decimal value
reply_text addresses (Refused refusal) = codes "refused " ++ name_of refusal

-- A line of output: the number of the trace's line, a space, the reply, and a newline.
abbrev pub reply_line : Bool → ℕ → Reply → List ℕ
reply_line addresses number reply = decimal number ++ codes " " ++ reply_text addresses reply ++ codes "\n"
