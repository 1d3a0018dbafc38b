-- A document with one answer more, and the whole. Used by `document`.
use Rattle.std.proofs.Common.{◌≡◌, ◌<◌, ◌≤◌, ◌+◌, ℕ, Bool, true, false, cond, List, [], ◌∷◌, ◌++◌, length, Option, Some, None}
use Rattle.std.proofs.Common.{refl, sym, subst, ap, ◌∙◌, arith, append_assoc, append-nil, codes, if◌then◌else◌}
use Rattle.std.proofs.lemmas.List.{map-append, length-append}
use Rattle.json.specs.Print.{escape_byte}
use Rattle.serde_json.specs.Data.{Data}
use Rattle.serde_json.specs.View.{items_of}
use Rattle.serde_json.specs.Written.{compact_text, items_text, members_text}
use Rattle.ms_base.specs.ReplyText.{reply_text}
use Rattle.ms_base.specs.declared.refusal.Refusal.{Refusal}
use Rattle.ms_base.specs.declared.step.Reply.{Reply}
use Rattle.ms_base.specs.declared.step.Reply.TheVariants.{Ok as Done, At, Value, Refused}
use Rattle.ms_base.specs.declared.settings.Settings.{Settings}
use Rattle.ms_course.specs.declared.column.Column.{Column}
use Rattle.ms_answers.specs.declared.replies.Answer.{Answer}
use Rattle.ms_answers.specs.declared.totals.Totals.{Totals}
use Rattle.ms_report.specs.Refused.{AreFew, is_refused_as, refusals_of, with_reply}
use Rattle.ms_report.specs.ReplyLines.{replies_in}
use Rattle.ms_report.specs.declared.refused.Refusals.{Refusals}
use Rattle.ms_report.proofs.ReplyLemmas.{counts_more, few_below, refusals_more}
use Rattle.ms_json.specs.Document.{DocumentView, Tells, answer_data, closed, elements_after, is_done, no_answer, reported, states_after}
use Rattle.ms_json.specs.Document.{document, last_rows, middle_rows, told_by, with_line}
use Rattle.ms_json.specs.Rows.{Row, elements_run, is_later, labelled, list_of, rows_then}
use Rattle.ms_json.specs.declared.naming.Named.{Named}
use Rattle.ms_json.specs.declared.run.Run.{Run}
use Rattle.ms_json.proofs.ChainLemmas.{members_last, members_then, rows_before}
use Rattle.ms_json.proofs.WritingLemmas.{items_after, items_are}

pub tells_none : (addresses : Bool) → Tells (no_answer addresses) (no_answer addresses) []
tells_none addresses = record {
  text = λ after. refl;
  reports = λ after. refl;
  refusals = refl;
  addresses = refl;
}

-- Elements that are appended, and those after them.
goes_on : (text : List ℕ) (later : Bool) (ds es : List Data)
    → text ++ items_text later (items_of (ds ++ es))
    ≡ (text ++ elements_run later ds) ++ items_text (is_later later ds) (items_of es)
goes_on text later ds es =
    ap (λ (more : List ℕ). text ++ more) (items_after later ds es)
    ∙ sym (append_assoc text (elements_run later ds) (items_text (is_later later ds) (items_of es)))

replies_more : (before : List Answer) (answer : Answer)
    → replies_in (before ++ answer ∷ []) ≡ replies_in before ++ answer.reply ∷ []
replies_more before answer = map-append (λ (a : Answer). a.reply) before (answer ∷ [])

-- The document after an answer, by what it appends.
abbrev pub with_answer : DocumentView → Answer → DocumentView
with_answer old answer = record {
  text = old.text ++ elements_run old.later (told_by old.addresses old.pending answer).0;
  later = is_later old.later (told_by old.addresses old.pending answer).0;
  pending = (told_by old.addresses old.pending answer).1;
  reports = old.reports ++ elements_run old.more (reported old.refusals answer.line answer.report);
  more = is_later old.more (reported old.refusals answer.line answer.report);
  refusals = with_reply old.refusals answer.reply;
  addresses = old.addresses;
}

pub tells_more : (first old : DocumentView) (before : List Answer) (answer : Answer) → Tells first old before
    → Tells first (with_answer old answer) (before ++ answer ∷ [])
tells_more first old before answer its = record {
  text = λ after.
      ap (λ (answers : List Answer). first.text
      ++ items_text first.later (items_of (elements_after first.addresses first.pending answers)))
      (append_assoc before (answer ∷ []) after)
      ∙ its.text (answer ∷ after)
      ∙ goes_on old.text old.later (told_by old.addresses old.pending answer).0
      (elements_after old.addresses (told_by old.addresses old.pending answer).1 after);
  reports = λ after.
      ap (λ (answers : List Answer). first.reports ++ items_text first.more (items_of (states_after [] answers)))
      (append_assoc before (answer ∷ []) after)
      ∙ its.reports (answer ∷ after)
      ∙ ap (λ (counts : Refusals). old.reports ++ items_text old.more (items_of
      (reported counts answer.line answer.report ++ states_after (replies_in before ++ answer.reply ∷ []) after)))
      (sym its.refusals)
      ∙ ap (λ (replies : List Reply). old.reports ++ items_text old.more (items_of
      (reported old.refusals answer.line answer.report ++ states_after replies after)))
      (sym (replies_more before answer))
      ∙ goes_on old.reports old.more (reported old.refusals answer.line answer.report)
      (states_after (replies_in (before ++ answer ∷ [])) after);
  refusals =
      ap (λ (counts : Refusals). with_reply counts answer.reply) its.refusals
      ∙ sym (refusals_more (replies_in before) answer.reply)
      ∙ ap refusals_of (sym (replies_more before answer));
  addresses = its.addresses;
}

-- A reply that is no refusal leaves the counts as they were.
few_same : (bound : ℕ) (counts : Refusals) (reply : Reply) → ((name : List ℕ) → is_refused_as name reply ≡ false)
    → AreFew bound counts → AreFew bound (with_reply counts reply)
few_same bound counts reply never few = record {
  loader_exists = still (codes "LoaderExists") counts.loader_exists few.loader_exists;
  ids_used_up = still (codes "IdsUsedUp") counts.ids_used_up few.ids_used_up;
  no_loader = still (codes "NoLoader") counts.no_loader few.no_loader;
  block_exists = still (codes "BlockExists") counts.block_exists few.block_exists;
  zero_words = still (codes "ZeroWords") counts.zero_words few.zero_words;
  too_large = still (codes "TooLarge") counts.too_large few.too_large;
  out_of_memory = still (codes "OutOfMemory") counts.out_of_memory few.out_of_memory;
  reserve_limit = still (codes "ReserveLimit") counts.reserve_limit few.reserve_limit;
  commit_limit = still (codes "CommitLimit") counts.commit_limit few.commit_limit;
  no_block = still (codes "NoBlock") counts.no_block few.no_block;
  out_of_range = still (codes "OutOfRange") counts.out_of_range few.out_of_range;
}
  where
    still : (name : List ℕ) (n : ℕ) → n < bound → n + cond (is_refused_as name reply) 1 0 < bound
    still name n less = rw (never name) (omega (arith, less))

-- An answer that is refused has a byte at least, so no more are counted than the text has bytes.
few_by : (before after : ℕ) (counts : Refusals) (reply : Reply) → AreFew (before + 1) counts → before ≤ after
    → ((refusal : Refusal) → reply ≡ Refused refusal → before + 1 ≤ after) → AreFew (after + 1) (with_reply counts reply)
few_by before after counts Done few kept grown =
    few_below (before + 1) (after + 1) (with_reply counts Done) (few_same (before + 1) counts Done (λ name. refl) few)
    (omega (arith, kept))
few_by before after counts (At start) few kept grown =
    few_below (before + 1) (after + 1) (with_reply counts (At start))
    (few_same (before + 1) counts (At start) (λ name. refl) few) (omega (arith, kept))
few_by before after counts (Value value) few kept grown =
    few_below (before + 1) (after + 1) (with_reply counts (Value value))
    (few_same (before + 1) counts (Value value) (λ name. refl) few) (omega (arith, kept))
few_by before after counts (Refused refusal) few kept grown =
    few_below (before + 1 + 1) (after + 1) (with_reply counts (Refused refusal))
    (counts_more (before + 1) counts (Refused refusal) few) (omega (arith, grown refusal refl))

told_refused : (addresses : Bool) (pending : Option Run) (answer : Answer) (refusal : Refusal)
    → answer.reply ≡ Refused refusal
    → (told_by addresses pending answer).0
    ≡ closed pending ++ answer_data answer.line answer.line (reply_text addresses answer.reply) ∷ []
told_refused addresses pending answer refusal same =
    ap (λ (done : Bool). (if done then with_line pending answer.line
    else (closed pending ++ answer_data answer.line answer.line (reply_text addresses answer.reply) ∷ [], None)).0)
    (ap (is_done addresses) same)

some_byte : (later : Bool) (pending : Option Run) (first last : ℕ) (reply : List ℕ)
    → 1 ≤ length (elements_run later (closed pending ++ answer_data first last reply ∷ []))
some_byte true None first last reply = omega arith
some_byte false None first last reply = omega arith
some_byte true (Some run) first last reply = omega arith
some_byte false (Some run) first last reply = omega arith

pub few_more : (text whole : List ℕ) (refusals counted : Refusals) (later addresses : Bool) (pending : Option Run)
    (answer : Answer) → AreFew (length text + 1) refusals
    → whole ≡ text ++ elements_run later (told_by addresses pending answer).0
    → counted ≡ with_reply refusals answer.reply → AreFew (length whole + 1) counted
few_more text whole refusals counted later addresses pending answer few adds counts =
    let told = (told_by addresses pending answer).0 in
    let grows : length whole ≡ length text + length (elements_run later told) =
    ap length adds ∙ length-append text (elements_run later told) in
    rw counts (few_by (length text) (length whole) refusals answer.reply few (omega (arith, grows))
    (λ refusal same.
    let some : 1 ≤ length (elements_run later told) = rw (told_refused addresses pending answer refusal same)
    (some_byte later pending answer.line answer.line (reply_text addresses answer.reply)) in
    omega (arith, grows, some)))

-- The whole text: what came of the answers, the members in the middle, the reports, the last members.
whole_text : (addresses : Bool) (settings : Settings) (lines : ℕ) (answers : List Answer) (columns : List Column)
    (end : Totals) (names : List Named) (now : DocumentView) (t1 t2 text : List ℕ) → Tells (no_answer addresses) now answers
    → t1 ≡ now.text ++ elements_run now.later (closed now.pending)
    → t2 ≡ t1 ++ (93 ∷ rows_then (middle_rows lines columns now.refusals end names) [])
    → text ≡ t2 ++ (codes ",\"reports\":[" ++ (now.reports ++ (93 ∷ rows_then (last_rows settings) (codes "}\n"))))
    → text ≡ compact_text (document addresses settings lines answers columns end names) ++ codes "\n"
unfolding escape_byte
whole_text addresses settings lines answers columns end names now t1 t2 text its first second third =
    third
    ∙ ap (λ (t : List ℕ). t ++ reports_part) (second ∙ ap (λ (t : List ℕ). t ++ (93 ∷ rows_then middle [])) first)
    ∙ regroup now.text (elements_run now.later (closed now.pending)) (rows_then middle []) reports_part
    ∙ ap (λ (t : List ℕ). t ++ (rows_then middle [] ++ reports_part)) answers_are
    ∙ ap (λ (t : List ℕ). (codes "{\"answers\":[" ++ elements) ++ t) (rows_before middle [] reports_part)
    ∙ ap (λ (t : List ℕ). (codes "{\"answers\":[" ++ elements) ++ rows_then middle t) reports_are
    ∙ ap (λ (t : List ℕ). (codes "{\"answers\":[" ++ elements) ++ t) (sym (rows_before middle last_members (codes "\n")))
    ∙ sym (append_assoc (codes "{\"answers\":[" ++ elements) (rows_then middle last_members) (codes "\n"))
    ∙ ap (λ (counts : Refusals). ((codes "{\"answers\":[" ++ elements)
    ++ rows_then (middle_rows lines columns counts end names) last_members) ++ codes "\n") its.refusals
    ∙ ap (λ (t : List ℕ). ((codes "{\"answers\":[" ++ elements) ++ t) ++ codes "\n")
    (sym (members_then (middle_rows lines columns (refusals_of (replies_in answers)) end names)
    ((codes "reports", list_of (states_after [] answers)) ∷ last_rows settings)))
  where
    middle : List Row
    middle = middle_rows lines columns now.refusals end names

    reports_part : List ℕ
    reports_part = codes ",\"reports\":[" ++ (now.reports ++ (93 ∷ rows_then (last_rows settings) (codes "}\n")))

    elements : List ℕ
    elements = items_text false (items_of (elements_after addresses None answers))

    states : List ℕ
    states = items_text false (items_of (states_after [] answers))

    last_members : List ℕ
    last_members = members_text true (labelled ((codes "reports", list_of (states_after [] answers)) ∷ last_rows settings))

    regroup : (a b c d : List ℕ) → ((a ++ b) ++ (93 ∷ c)) ++ d ≡ (a ++ (b ++ 93 ∷ [])) ++ (c ++ d)
    regroup a b c d =
        append_assoc (a ++ b) (93 ∷ c) d ∙ sym (append_assoc (a ++ b) (93 ∷ []) (c ++ d))
        ∙ ap (λ (t : List ℕ). t ++ (c ++ d)) (append_assoc a b (93 ∷ []))

    answers_are : now.text ++ (elements_run now.later (closed now.pending) ++ 93 ∷ []) ≡ codes "{\"answers\":[" ++ elements
    answers_are =
        ap (λ (t : List ℕ). now.text ++ t) (sym (items_are now.later (closed now.pending)))
        ∙ sym (its.text [])
        ∙ ap (λ (all : List Answer). codes "{\"answers\":[" ++ items_text false (items_of (elements_after addresses None all)))
        (append-nil answers)

    ends : rows_then (last_rows settings) (codes "}\n") ≡ members_text true (labelled (last_rows settings)) ++ codes "\n"
    ends = sym (rows_before (last_rows settings) (125 ∷ []) (codes "\n"))
        ∙ ap (λ (t : List ℕ). t ++ codes "\n") (sym (members_last (last_rows settings)))

    reports_are : reports_part ≡ last_members ++ codes "\n"
    reports_are =
        ap (λ (t : List ℕ). codes ",\"reports\":[" ++ (now.reports ++ 93 ∷ t)) ends
        ∙ ap (λ (t : List ℕ). codes ",\"reports\":[" ++ t)
        (sym (append_assoc now.reports (93 ∷ []) (members_text true (labelled (last_rows settings)) ++ codes "\n")))
        ∙ ap (λ (t : List ℕ). codes ",\"reports\":[" ++ (t ++ (members_text true (labelled (last_rows settings)) ++ codes "\n")))
        (sym (its.reports []) ∙ ap (λ (all : List Answer). items_text false (items_of (states_after [] all))) (append-nil answers))
        ∙ ap (λ (t : List ℕ). codes ",\"reports\":[" ++ t)
        (sym (append_assoc states (members_text true (labelled (last_rows settings))) (codes "\n")))

-- The same of a document that is seen so.
pub whole_of : (addresses : Bool) (settings : Settings) (lines : ℕ) (answers : List Answer) (columns : List Column)
    (end : Totals) (names : List Named) (view now : DocumentView) (t1 t2 text : List ℕ) → view ≡ now
    → Tells (no_answer addresses) now answers
    → t1 ≡ view.text ++ elements_run view.later (closed view.pending)
    → t2 ≡ t1 ++ (93 ∷ rows_then (middle_rows lines columns view.refusals end names) [])
    → text ≡ t2 ++ (codes ",\"reports\":[" ++ (view.reports ++ (93 ∷ rows_then (last_rows settings) (codes "}\n"))))
    → text ≡ compact_text (document addresses settings lines answers columns end names) ++ codes "\n"
whole_of addresses settings lines answers columns end names view now t1 t2 text same its first second third =
    whole_text addresses settings lines answers columns end names view t1 t2 text
    (subst (λ (v : DocumentView). Tells (no_answer addresses) v answers) (sym same) its) first second third

-- A document that is so after an answer tells it too.
pub tells_with : (first old : DocumentView) (before : List Answer) (answer : Answer) (text reports : List ℕ)
    (later more : Bool) (pending : Option Run) (counts : Refusals)
    → text ≡ (with_answer old answer).text → later ≡ (with_answer old answer).later
    → pending ≡ (with_answer old answer).pending → reports ≡ (with_answer old answer).reports
    → more ≡ (with_answer old answer).more → counts ≡ with_reply old.refusals answer.reply
    → Tells first old before
    → Tells first (record {
      text = text;
      later = later;
      pending = pending;
      reports = reports;
      more = more;
      refusals = counts;
      addresses = old.addresses;
    }) (before ++ answer ∷ [])
tells_with first old before answer text reports later more pending counts t l p r m n its =
    subst (λ (now : DocumentView). Tells first now (before ++ answer ∷ [])) (sym same) (tells_more first old before answer its)
  where
    now : DocumentView
    now = record {
      text = text;
      later = later;
      pending = pending;
      reports = reports;
      more = more;
      refusals = counts;
      addresses = old.addresses;
    }

    same : now ≡ with_answer old answer
    same = λ i. record {
      text = t i;
      later = l i;
      pending = p i;
      reports = r i;
      more = m i;
      refusals = n i;
      addresses = old.addresses;
    }
