-- One answer more: its line, its report, and the refusals with it. Used by `answer_text`.
use Rattle.std.proofs.Common.{◌≡◌, ◌<◌, ◌≤◌, ◌+◌, ℕ, Bool, true, false, List, [], ◌∷◌, ◌++◌, length, cond}
use Rattle.std.proofs.Common.{sym, ap, ap₂, ◌∙◌, refl, arith, append-nil, Option, Some, None}
use Rattle.std.specs.Prelude.{codes, decimal}
use Rattle.std.proofs.Math.Path.{fun_ext}
use Rattle.std.proofs.lemmas.List.{map-append, append_assoc, length-append}
use Rattle.std.proofs.lemmas.List.Sums.{sum_by_push}
use Rattle.std.specs.Prelude.{Box}
use Rattle.std.specs.declared.alloc.Global.{Global}
use Rattle.ms_base.specs.ReplyText.{reply_line, reply_text}
use Rattle.ms_base.specs.declared.settings.Settings.{Settings}
use Rattle.ms_base.specs.declared.step.Reply.{Reply}
use Rattle.ms_answers.specs.declared.verbosity.Verbosity.{Verbosity}
use Rattle.ms_answers.specs.declared.verbosity.Verbosity.TheVariants.{Basic}
use Rattle.ms_answers.specs.declared.totals.Totals.{Totals}
use Rattle.ms_answers.specs.declared.replies.Answer.{Answer}
use Rattle.ms_report.specs.AnswerText.{AnswerTextView, Tells, no_answer}
use Rattle.ms_report.specs.Refused.{AreFew, by_name, is_refused_as, refusals_of, with_reply}
use Rattle.ms_report.specs.ReplyLines.{answer_text, answers_text, later_text, replies_in, report_after}
use Rattle.ms_report.specs.declared.refused.Refusals.{Refusals}

-- The refusals among replies, with one more.
pub refusals_more : (before : List Reply) (reply : Reply)
    → refusals_of (before ++ reply ∷ []) ≡ with_reply (refusals_of before) reply
refusals_more before reply =
    ap by_name (fun_ext (λ name. sum_by_push (λ (r : Reply). cond (is_refused_as name r) 1 0) before reply))

-- The lines of later answers, with one more.
text_more : (addresses : Bool) (verbosity : Verbosity) (settings : Settings) (before : List Reply) (answers : List Answer)
    (answer : Answer)
    → later_text addresses verbosity settings before (answers ++ answer ∷ [])
    ≡ later_text addresses verbosity settings before answers
    ++ answer_text addresses verbosity settings (refusals_of (before ++ replies_in answers)) answer
text_more addresses verbosity settings before [] answer =
    append-nil (answer_text addresses verbosity settings (refusals_of before) answer)
    ∙ ap (λ (b : List Reply). answer_text addresses verbosity settings (refusals_of b) answer) (sym (append-nil before))
text_more addresses verbosity settings before (one ∷ answers) answer =
    ap (λ (t : List ℕ). first ++ t) (text_more addresses verbosity settings (before ++ one.reply ∷ []) answers answer)
    ∙ ap (λ (b : List Reply). first ++ (others ++ answer_text addresses verbosity settings (refusals_of b) answer))
    (append_assoc before (one.reply ∷ []) (replies_in answers))
    ∙ sym (append_assoc first others
    (answer_text addresses verbosity settings (refusals_of (before ++ replies_in (one ∷ answers))) answer))
  where
    first : List ℕ
    first = answer_text addresses verbosity settings (refusals_of before) one

    others : List ℕ
    others = later_text addresses verbosity settings (before ++ one.reply ∷ []) answers

-- Basic reports are the same whatever the settings are.
pub basic_alike : (addresses : Bool) (one other : Settings) (answers : List Answer)
    → answers_text addresses Basic one answers ≡ answers_text addresses Basic other answers
basic_alike addresses one other = later_alike []
  where
    report_alike : (refusals : Refusals) (report : Option (Box Totals Global))
        → report_after Basic one refusals report ≡ report_after Basic other refusals report
    report_alike refusals None = refl
    report_alike refusals (Some totals) = refl

    later_alike : (before : List Reply) (answers : List Answer)
        → later_text addresses Basic one before answers ≡ later_text addresses Basic other before answers
    later_alike before [] = refl
    later_alike before (answer ∷ answers) = ap₂ (λ (line rest : List ℕ). line ++ rest)
        (ap (λ (report : List ℕ). reply_line addresses answer.line answer.reply ++ report)
        (report_alike (refusals_of before) answer.report))
        (later_alike (before ++ answer.reply ∷ []) answers)

-- A text of no answer tells none, and one that gains an answer's text tells it too.
pub tells_none : (addresses : Bool) (verbosity : Verbosity) (settings : Settings)
    → Tells (no_answer addresses verbosity settings) (no_answer addresses verbosity settings) []
tells_none addresses verbosity settings = record {
  text = refl;
  refusals = refl;
  addresses = refl;
  verbosity = refl;
  settings = refl;
}

pub tells_more : (first old : AnswerTextView) (before : List Answer) (answer : Answer) (text : List ℕ)
    (refusals : Refusals) → Tells first old before
    → text ≡ old.text ++ answer_text old.addresses old.verbosity old.settings old.refusals answer
    → refusals ≡ with_reply old.refusals answer.reply
    → Tells first (record old { text = text; refusals = refusals }) (before ++ answer ∷ [])
tells_more first old before answer text refusals its adds counts = record {
  text = adds
      ∙ ap (λ (t : List ℕ). t ++ answer_text old.addresses old.verbosity old.settings old.refusals answer) its.text
      ∙ ap (λ (a : Bool). whole ++ answer_text a old.verbosity old.settings old.refusals answer) its.addresses
      ∙ ap (λ (d : Verbosity). whole ++ answer_text first.addresses d old.settings old.refusals answer) its.verbosity
      ∙ ap (λ (s : Settings). whole ++ answer_text first.addresses first.verbosity s old.refusals answer) its.settings
      ∙ ap (λ (r : Refusals). whole ++ answer_text first.addresses first.verbosity first.settings r answer) its.refusals
      ∙ sym (text_more first.addresses first.verbosity first.settings [] before answer);
  refusals = counts
      ∙ ap (λ (r : Refusals). with_reply r answer.reply) its.refusals
      ∙ sym (refusals_more (replies_in before) answer.reply)
      ∙ ap refusals_of (sym (map-append (λ (a : Answer). a.reply) before (answer ∷ [])));
  addresses = its.addresses;
  verbosity = its.verbosity;
  settings = its.settings;
}
  where
    whole : List ℕ
    whole = answers_text first.addresses first.verbosity first.settings before

-- Fewer than a bound are fewer than a greater one.
pub few_below : (bound greater : ℕ) (counts : Refusals) → AreFew bound counts → bound ≤ greater → AreFew greater counts
few_below bound greater counts few within = record {
  loader_exists = omega (arith, few.loader_exists, within);
  ids_used_up = omega (arith, few.ids_used_up, within);
  no_loader = omega (arith, few.no_loader, within);
  block_exists = omega (arith, few.block_exists, within);
  zero_words = omega (arith, few.zero_words, within);
  too_large = omega (arith, few.too_large, within);
  out_of_memory = omega (arith, few.out_of_memory, within);
  reserve_limit = omega (arith, few.reserve_limit, within);
  commit_limit = omega (arith, few.commit_limit, within);
  no_block = omega (arith, few.no_block, within);
  out_of_range = omega (arith, few.out_of_range, within);
}

-- A count goes up by one at most.
one_more : (name : List ℕ) (reply : Reply) (n bound : ℕ) → n < bound
    → n + cond (is_refused_as name reply) 1 0 < bound + 1
one_more name reply n bound less = at_most (is_refused_as name reply)
  where
    at_most : (b : Bool) → n + cond b 1 0 < bound + 1
    at_most true = omega (arith, less)
    at_most false = omega (arith, less)

pub counts_more : (bound : ℕ) (counts : Refusals) (reply : Reply) → AreFew bound counts
    → AreFew (bound + 1) (with_reply counts reply)
counts_more bound counts reply few = record {
  loader_exists = one_more (codes "LoaderExists") reply counts.loader_exists bound few.loader_exists;
  ids_used_up = one_more (codes "IdsUsedUp") reply counts.ids_used_up bound few.ids_used_up;
  no_loader = one_more (codes "NoLoader") reply counts.no_loader bound few.no_loader;
  block_exists = one_more (codes "BlockExists") reply counts.block_exists bound few.block_exists;
  zero_words = one_more (codes "ZeroWords") reply counts.zero_words bound few.zero_words;
  too_large = one_more (codes "TooLarge") reply counts.too_large bound few.too_large;
  out_of_memory = one_more (codes "OutOfMemory") reply counts.out_of_memory bound few.out_of_memory;
  reserve_limit = one_more (codes "ReserveLimit") reply counts.reserve_limit bound few.reserve_limit;
  commit_limit = one_more (codes "CommitLimit") reply counts.commit_limit bound few.commit_limit;
  no_block = one_more (codes "NoBlock") reply counts.no_block bound few.no_block;
  out_of_range = one_more (codes "OutOfRange") reply counts.out_of_range bound few.out_of_range;
}

-- A line has a byte at least.
some_byte : (a b end rest : List ℕ) (byte : ℕ) → 1 ≤ length ((((a ++ byte ∷ []) ++ b) ++ end) ++ rest)
some_byte a b end rest byte = omega (
  arith,
  length-append (((a ++ byte ∷ []) ++ b) ++ end) rest,
  length-append ((a ++ byte ∷ []) ++ b) end,
  length-append (a ++ byte ∷ []) b,
  length-append a (byte ∷ []),
)

-- So no more answers are counted than the text has bytes.
pub few_still : (text whole : List ℕ) (addresses : Bool) (verbosity : Verbosity) (settings : Settings) (refusals counted : Refusals)
    (answer : Answer) → AreFew (length text + 1) refusals
    → whole ≡ text ++ answer_text addresses verbosity settings refusals answer
    → counted ≡ with_reply refusals answer.reply → AreFew (length whole + 1) counted
few_still text whole addresses verbosity settings refusals counted answer few adds counts =
    let line : List ℕ = answer_text addresses verbosity settings refusals answer in
    let some : 1 ≤ length line =
    some_byte (decimal answer.line) (reply_text addresses answer.reply) (codes "\n")
    (report_after verbosity settings refusals answer.report) 32 in
    let longer : length text + 1 + 1 ≤ length whole + 1 = omega (arith, ap length adds, length-append text line, some) in
    rw counts (few_below (length text + 1 + 1) (length whole + 1) (with_reply refusals answer.reply)
    (counts_more (length text + 1) refusals answer.reply few) longer)
