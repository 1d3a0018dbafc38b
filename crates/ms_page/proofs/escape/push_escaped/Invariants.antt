use Rattle.std.proofs.Common.{◌≡◌, ◌++◌, drop}
use Rattle.ms_page.specs.Escape.{escaped}
use Rattle.ms_page.proofs.escape.push_escaped.Given as goal

-- the page so far, then what stands for the later bytes
abbrev pub invariant-loop-byte : goal.invariant-loop-byte
invariant-loop-byte l = l.fn.page.items ++ escaped l.text ≡ l.page.items ++ escaped (drop l.byte-index l.text)
