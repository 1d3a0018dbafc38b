-- What to try next after a run (this project's choice).
use Rattle.std.specs.Prelude.{ℕ, ◌+◌, ◌-◌, ◌*◌, ◌/◌, ◌&&◌, nat_le, nat_lt, min, max, Bool, true, false, Option, Some, None, if◌then◌else◌}
use Rattle.ms_base.specs.Level.{root_words}
use Rattle.ms_base.specs.Policy.{granule_of}
use Rattle.ms_base.specs.declared.policy.Policy.{Policy}
use Rattle.ms_base.specs.declared.policy.Policy.TheVariants as policies
use Rattle.ms_base.specs.declared.settings.Settings.{Settings}
use Rattle.ms_page.specs.declared.advice.Advice.{Advice}
use Rattle.ms_page.specs.declared.advice.CommitAdvice.{CommitAdvice}
use Rattle.ms_page.specs.declared.advice.CommitAdvice.TheVariants.{Raise, Greatest, Lower, Try}
use Rattle.ms_page.specs.declared.advice.PolicyAdvice.{PolicyAdvice}
use Rattle.ms_page.specs.declared.advice.PolicyAdvice.TheVariants as compare
use Rattle.ms_page.specs.declared.tiles.Facts.{Facts}
use Rattle.ms_page.specs.declared.tiles.LoaderCase.{LoaderCase}
use Rattle.ms_page.specs.declared.tiles.LoaderCase.TheVariants.{Rising}
use Rattle.ms_page.specs.Tiles.{loader_case}

-- The greatest limits that there are: of granules, of nodes, and of nodes of the class space.
abbrev pub most_granules : ℕ
most_granules = 40960

abbrev pub most_nodes : ℕ
most_nodes = 64

abbrev pub most_class_nodes : ℕ
most_class_nodes = 16

-- The granules of so many words, cut off.
abbrev pub granules_of : Policy → ℕ → ℕ
granules_of policy words = words / granule_of policy

-- Twice the commit limit, as far as there is such a limit.
abbrev pub raised : ℕ → CommitAdvice
raised limit = if nat_lt limit most_granules then Raise (min most_granules (2 * limit)) else Greatest

-- Where no line was refused at it, and the peak left room for a whole root chunk, no growth was
-- refused silently either: then each limit from the peak on does.
abbrev pub commit_advice : Facts → Settings → CommitAdvice
commit_advice facts settings =
    let root = granules_of settings.policy root_words in
    let peak = granules_of settings.policy facts.committed_peak in
    if nat_lt 0 facts.commit_refused then raised settings.max_granules
    else (if nat_le (peak + root) settings.max_granules then Lower (max peak 1)
    else Try (min most_granules (settings.max_granules + root)))

-- Twice the nodes, where lines were refused for want of them and there may be more.
abbrev pub more_class_nodes : Facts → Settings → Option ℕ
more_class_nodes facts settings =
    if nat_lt 0 facts.class_refused && nat_lt settings.class_nodes most_class_nodes
    then Some (min most_class_nodes (max (2 * settings.class_nodes) 1)) else None

abbrev pub more_nodes : Facts → Settings → Option ℕ
more_nodes facts settings =
    if nat_lt 0 facts.reserve_refused && nat_lt settings.nodes most_nodes
    then Some (min most_nodes (2 * settings.nodes)) else None

-- Less than nine tenths of what is committed are in use.
abbrev pub is_spare : Facts → Bool
is_spare facts = nat_lt (10 * facts.used) (9 * facts.committed)

-- Which policy commits less.
abbrev pub policy_advice : Facts → Policy → PolicyAdvice
policy_advice facts policies.None = compare.Balanced
policy_advice facts policies.Balanced =
    if is_spare facts then compare.Aggressive (facts.committed - facts.used) else compare.Nothing
policy_advice facts policies.Aggressive = compare.Nothing

-- Loaders pile up.
abbrev pub is_rise : LoaderCase → Bool
is_rise Rising = true
is_rise said = false

-- Lines were refused for what they ask, not for want of something.
abbrev pub some_ask : Facts → Bool
some_ask facts =
    nat_lt (facts.commit_refused + facts.reserve_refused + facts.class_refused + facts.other_wants) facts.refused

-- What to try next.
abbrev pub advice_of : Facts → Settings → Advice
advice_of facts settings = record {
  commit = commit_advice facts settings;
  class_nodes = more_class_nodes facts settings;
  nodes = more_nodes facts settings;
  policy = policy_advice facts settings.policy;
  empty_nodes = facts.empty_nodes;
  old_loaders = is_rise (loader_case facts);
  replies = some_ask facts;
}
