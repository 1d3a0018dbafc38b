-- A seat that hosts a loader without names still does after each call of its member.
use Rattle.std.proofs.Common.{◌≡◌, ◌<◌, ℕ, Option, Some, None, refl, sym, ap, ◌∙◌, subst}
use Rattle.std.proofs.Common.{true, false, is_some}
use Rattle.ms_base.specs.declared.kind.Space.{Space}
use Rattle.ms_base.specs.declared.span.Block.{Block}
use Rattle.ms_base.specs.declared.step.Reply.{Reply}
use Rattle.ms_pool.specs.Account.{AccountState}
use Rattle.ms_arena.specs.Arena.{account_of}
use Rattle.ms_loader.specs.Loader.{LoaderView}
use Rattle.ms_shared.specs.declared.lock_rule.SeatView.{SeatView}
use Rattle.ms_shared.specs.SeatView.{LockState, SeatState, HeldState, ServesBy, opened_by}
use Rattle.ms_member.specs.declared.member.hosted.Hosted.{Hosted}
use Rattle.ms_member.specs.Arenas.{ServesArenas}
use Rattle.ms_member.specs.Hosted.{shown}
use Rattle.ms_member.specs.Member.{IsSeated, HostsArenas, AnswersOver, AnswersWithout, FreesIn}
use Rattle.ms_member.specs.Taking.{ServesAny, TakesAny, TakesAlone, GivesAny, FreesAny}
use Rattle.ms_member.proofs.ArenasLemmas.{serves_own, serves_giving, serves_freed_of}
use Rattle.ms_member.proofs.SeatedLemmas.{has_it}

-- A seat hosts arenas: alone, and with the pool.
pub hosted : (arenas : Option Hosted) (one : Option SeatState) (held : HeldState) (some : Option HeldState)
    (loader : Option LoaderView) → some ≡ Some held → HostsArenas arenas one some loader
    → ServesAny held.seat.knows arenas
hosted None one held some loader is its = tt
hosted (Some arenas) None held (Some other) None is its =
    let same : other ≡ held = cc in subst (λ (h : HeldState). ServesArenas h.seat.knows (shown arenas)) same its
hosted (Some arenas) None held None loader is its = absurd (cc)
hosted (Some arenas) None held (Some other) (Some loader) is its = absurd its
hosted (Some arenas) (Some seat) held None loader is its = absurd (cc)
hosted (Some arenas) (Some seat) held (Some other) loader is its = absurd its

pub hosted_alone : (arenas : Option Hosted) (seat : SeatState) (one : Option SeatState) (held : Option HeldState)
    (loader : Option LoaderView) → one ≡ Some seat → HostsArenas arenas one held loader
    → ServesAny seat.knows arenas
hosted_alone None seat one held loader is its = tt
hosted_alone (Some arenas) seat (Some other) None None is its =
    let same : other ≡ seat = cc in subst (λ (s : SeatState). ServesArenas s.knows (shown arenas)) same its
hosted_alone (Some arenas) seat None held loader is its = absurd (cc)
hosted_alone (Some arenas) seat (Some other) (Some held) loader is its = absurd its
hosted_alone (Some arenas) seat (Some other) None (Some loader) is its = absurd its

-- Where the seat hosts arenas there is no loader.
pub alone_there : (arenas : Option Hosted) (is : Hosted) (one : Option SeatState) (held : Option HeldState)
    (loader : Option LoaderView) → arenas ≡ Some is → HostsArenas arenas one held loader → loader ≡ None
alone_there None is one held loader some its = absurd (cc)
alone_there (Some arenas) is (Some seat) None None some its = refl
alone_there (Some arenas) is None (Some held) None some its = refl
alone_there (Some arenas) is (Some seat) None (Some loader) some its = absurd its
alone_there (Some arenas) is None (Some held) (Some loader) some its = absurd its
alone_there (Some arenas) is (Some seat) (Some held) loader some its = absurd its
alone_there (Some arenas) is None None loader some its = absurd its

-- The seat takes the pool, and lets it go.
pub hosts_held : (arenas : Option Hosted) (one : Option SeatState) (seat : SeatState) (held : Option HeldState)
    (now : HeldState) (loader : Option LoaderView) → one ≡ Some seat → now.seat ≡ seat
    → HostsArenas arenas one held loader → HostsArenas arenas None (Some now) loader
hosts_held None one seat held now loader is same its = tt
hosts_held (Some arenas) (Some other) seat None now None is same its =
    let so : other ≡ now.seat = cc in subst (λ (s : SeatState). ServesArenas s.knows (shown arenas)) so its
hosts_held (Some arenas) None seat held now loader is same its = absurd (cc)
hosts_held (Some arenas) (Some other) seat (Some held) now loader is same its = absurd its
hosts_held (Some arenas) (Some other) seat None now (Some loader) is same its = absurd its

pub hosts_let_go : (arenas : Option Hosted) (one : Option SeatState) (seat : SeatState) (some : Option HeldState)
    (held : HeldState) (loader : Option LoaderView) → some ≡ Some held → seat ≡ held.seat
    → HostsArenas arenas one some loader → HostsArenas arenas (Some seat) None loader
hosts_let_go None one seat some held loader is same its = tt
hosts_let_go (Some arenas) None seat (Some other) held None is same its =
    let so : other.seat ≡ seat = ap (λ (h : HeldState). h.seat) (the is) ∙ sym same in
    subst (λ (s : SeatState). ServesArenas s.knows (shown arenas)) so its
  where
    the : Some other ≡ Some held → other ≡ held
    the e = cc
hosts_let_go (Some arenas) None seat None held loader is same its = absurd (cc)
hosts_let_go (Some arenas) None seat (Some other) held (Some loader) is same its = absurd its
hosts_let_go (Some arenas) (Some own) seat None held loader is same its = absurd (cc)
hosts_let_go (Some arenas) (Some own) seat (Some other) held loader is same its = absurd its

-- The seat with the pool, and arenas that it serves then.
pub hosts_now : (arenas new : Option Hosted) (one : Option SeatState) (held : HeldState) (some : Option HeldState)
    (now : HeldState) (loader : Option LoaderView) → some ≡ Some held
    → (arenas ≡ None → new ≡ None) → ServesAny now.seat.knows new
    → HostsArenas arenas one some loader → HostsArenas new one (Some now) loader
hosts_now None new one held some now loader is none serves its =
    subst (λ (a : Option Hosted). HostsArenas a one (Some now) loader) (sym (none refl)) tt
hosts_now (Some arenas) None one held some now loader is none serves its = tt
hosts_now (Some arenas) (Some new) None held (Some other) now None is none serves its = serves
hosts_now (Some arenas) (Some new) None held None now loader is none serves its = absurd (cc)
hosts_now (Some arenas) (Some new) None held (Some other) now (Some loader) is none serves its = absurd its
hosts_now (Some arenas) (Some new) (Some seat) held None now loader is none serves its = absurd (cc)
hosts_now (Some arenas) (Some new) (Some seat) held (Some other) now loader is none serves its = absurd its

-- A loader that there may be was asked for a block, or freed one: where there was none there is none.
pub hosts_over : (space : Space) (block words : ℕ) (arenas : Option Hosted) (one : Option SeatState)
    (held now : HeldState) (some : Option HeldState) (loader new : Option LoaderView) (reply : Reply)
    → some ≡ Some held → AnswersOver space block words held loader reply new now
    → HostsArenas arenas one some loader → HostsArenas arenas one (Some now) new
hosts_over space block words None one held now some loader new reply is answers its = tt
hosts_over space block words (Some arenas) None held now (Some other) None new reply is answers its =
    let same : other ≡ now = cc-same is answers.2 in
    subst (λ (l : Option LoaderView). HostsArenas (Some arenas) None (Some now) l) (sym answers.1)
    (subst (λ (h : HeldState). ServesArenas h.seat.knows (shown arenas)) same its)
  where
    cc-same : Some other ≡ Some held → now ≡ held → other ≡ now
    cc-same e f = cc
hosts_over space block words (Some arenas) None held now None loader new reply is answers its = absurd (cc)
hosts_over space block words (Some arenas) None held now (Some other) (Some loader) new reply is answers its = absurd its
hosts_over space block words (Some arenas) (Some seat) held now None loader new reply is answers its = absurd (cc)
hosts_over space block words (Some arenas) (Some seat) held now (Some other) loader new reply is answers its = absurd its

hosts_still : (arenas : Option Hosted) (one : Option SeatState) (held : Option HeldState)
    (loader new : Option LoaderView) → (loader ≡ None → new ≡ None) → HostsArenas arenas one held loader
    → HostsArenas arenas one held new
hosts_still None one held loader new none its = tt
hosts_still (Some arenas) (Some seat) None None new none its =
    subst (λ (l : Option LoaderView). HostsArenas (Some arenas) (Some seat) None l) (sym (none refl)) its
hosts_still (Some arenas) None (Some held) None new none its =
    subst (λ (l : Option LoaderView). HostsArenas (Some arenas) None (Some held) l) (sym (none refl)) its
hosts_still (Some arenas) (Some seat) None (Some loader) new none its = absurd its
hosts_still (Some arenas) None (Some held) (Some loader) new none its = absurd its
hosts_still (Some arenas) (Some seat) (Some held) loader new none its = absurd its
hosts_still (Some arenas) None None loader new none its = absurd its

none_freed : (block : ℕ) (loader new : Option LoaderView) (reply : Reply) → FreesIn block loader reply new
    → loader ≡ None → new ≡ None
none_freed block None new reply its none = its.1
none_freed block (Some loader) new reply its none = absurd (cc)

pub hosts_freed : (block : ℕ) (arenas : Option Hosted) (one : Option SeatState) (held : Option HeldState)
    (loader new : Option LoaderView) (reply : Reply) → FreesIn block loader reply new
    → HostsArenas arenas one held loader → HostsArenas arenas one held new
hosts_freed block arenas one held loader new reply frees its =
    hosts_still arenas one held loader new (none_freed block loader new reply frees) its

none_placed : (space : Space) (block words : ℕ) (loader new : Option LoaderView) (reply : Option Reply)
    → AnswersWithout space block words loader reply new → loader ≡ None → new ≡ None
none_placed space block words None new reply its none = its.1
none_placed space block words (Some loader) new reply its none = absurd (cc)

pub hosts_without : (space : Space) (block words : ℕ) (arenas : Option Hosted) (one : Option SeatState)
    (held : Option HeldState) (loader new : Option LoaderView) (reply : Option Reply)
    → AnswersWithout space block words loader reply new → HostsArenas arenas one held loader
    → HostsArenas arenas one held new
hosts_without space block words arenas one held loader new reply answers its =
    hosts_still arenas one held loader new (none_placed space block words loader new reply answers) its

-- A purge, which serves what was served.
serves_any_purged : (old new : SeatView) → ((account : AccountState) → ServesBy old account → ServesBy new account)
    → opened_by new ≡ opened_by old → (arenas : Option Hosted) → ServesAny old arenas → ServesAny new arenas
serves_any_purged old new others counts None its = tt
serves_any_purged old new others counts (Some arenas) its = record {
  served = others (account_of (shown arenas).arena) its.served;
  class_served = others (account_of (shown arenas).class_arena) its.class_served;
  space = its.space;
  class_space = its.class_space;
  counted = λ one. subst (λ (n : ℕ). 0 < n) (sym (ap (λ (f : Space → ℕ). f one) counts)) (its.counted one);
  apart = its.apart;
}

pub hosts_purged : (arenas : Option Hosted) (one : Option SeatState) (held now : HeldState) (some : Option HeldState)
    (loader : Option LoaderView) → some ≡ Some held
    → ((account : AccountState) → ServesBy held.seat.knows account → ServesBy now.seat.knows account)
    → opened_by now.seat.knows ≡ opened_by held.seat.knows → HostsArenas arenas one some loader
    → HostsArenas arenas one (Some now) loader
hosts_purged arenas one held now some loader is others counts its =
    hosts_now arenas arenas one held some now loader is (λ e. e)
    (serves_any_purged held.seat.knows now.seat.knows others counts arenas (hosted arenas one held some loader is its)) its

-- So the member's seat hosts them still.
hosts_changed : (old is : Hosted) (new : Option Hosted) (one : Option SeatState) (held : Option HeldState)
    (loader : Option LoaderView) → new ≡ Some is
    → ((knows : SeatView) → ServesArenas knows (shown old) → ServesArenas knows (shown is))
    → HostsArenas (Some old) one held loader → HostsArenas new one held loader
hosts_changed old is new (Some seat) None None same each its =
    subst (λ (a : Option Hosted). HostsArenas a (Some seat) None None) (sym same) (each seat.knows its)
hosts_changed old is new None (Some held) None same each its =
    subst (λ (a : Option Hosted). HostsArenas a None (Some held) None) (sym same) (each held.seat.knows its)
hosts_changed old is new (Some seat) None (Some loader) same each its = absurd its
hosts_changed old is new None (Some held) (Some loader) same each its = absurd its
hosts_changed old is new (Some seat) (Some held) loader same each its = absurd its
hosts_changed old is new None None loader same each its = absurd its

pub hosts_alone : (space : Space) (words : ℕ) (arenas new : Option Hosted) (one : Option SeatState)
    (held : Option HeldState) (loader : Option LoaderView) (reply : Option Reply)
    → TakesAlone space words arenas reply new → HostsArenas arenas one held loader → HostsArenas new one held loader
hosts_alone space words None new one held loader reply takes its =
    subst (λ (a : Option Hosted). HostsArenas a one held loader) (sym takes.1) tt
hosts_alone space words (Some old) new one held loader reply takes its =
    hosts_changed old takes.0 new one held loader takes.1
    (λ knows. serves_own space words knows old takes.0 reply takes.2) its

pub hosts_given : (space : Space) (block : Block) (arenas new : Option Hosted) (one : Option SeatState)
    (held : Option HeldState) (loader : Option LoaderView) (reply : Reply)
    → GivesAny space block arenas reply new → HostsArenas arenas one held loader → HostsArenas new one held loader
hosts_given space block None new one held loader reply gives its =
    subst (λ (a : Option Hosted). HostsArenas a one held loader) (sym gives.1) tt
hosts_given space block (Some old) new one held loader reply gives its =
    hosts_changed old gives.0 new one held loader gives.1
    (λ knows. serves_giving space block knows old gives.0 reply gives.2) its

pub hosts_freed_of : (space : Space) (block : Block) (arenas new : Option Hosted) (one : Option SeatState)
    (held : Option HeldState) (loader : Option LoaderView) (reply : Reply)
    → FreesAny space block arenas reply new → HostsArenas arenas one held loader → HostsArenas new one held loader
hosts_freed_of space block None new one held loader reply gives its =
    subst (λ (a : Option Hosted). HostsArenas a one held loader) (sym gives.1) tt
hosts_freed_of space block (Some old) new one held loader reply gives its =
    hosts_changed old gives.0 new one held loader gives.1
    (λ knows. serves_freed_of space block knows old gives.0 reply gives.2) its

none_taken : (space : Space) (words : ℕ) (held now : HeldState) (arenas new : Option Hosted) (reply : Reply)
    → TakesAny space words held arenas reply new now → arenas ≡ None → new ≡ None
none_taken space words held now None new reply its none = its.1
none_taken space words held now (Some arenas) new reply its none = absurd (cc)

pub hosts_taken : (space : Space) (words : ℕ) (arenas new : Option Hosted) (one : Option SeatState)
    (held now : HeldState) (some : Option HeldState) (loader : Option LoaderView) (reply : Reply) → some ≡ Some held
    → TakesAny space words held arenas reply new now → ServesAny now.seat.knows new
    → HostsArenas arenas one some loader → HostsArenas new one (Some now) loader
hosts_taken space words arenas new one held now some loader reply is takes serves its =
    hosts_now arenas new one held some now loader is (none_taken space words held now arenas new reply takes) serves its

-- Whether there is one.
pub some_there : {X : Type 0} (o : Option X) → is_some o ≡ true → (x : X) × (o ≡ Some x)
some_there (Some x) is = (x, refl)
some_there None is = absurd (cc)

pub none_there : {X : Type 0} (o : Option X) → is_some o ≡ false → o ≡ None
none_there None is = refl
none_there (Some x) is = absurd (cc)

-- A seat with the pool and with no loader, and one with arenas.
pub seated_bare : (lock : LockState) (one : Option SeatState) (now : HeldState) (loader : Option LoaderView)
    → one ≡ None → loader ≡ None → now.seat.id ≡ lock.id → IsSeated lock one (Some now) loader
seated_bare lock None now None alone none own = (own, tt)
seated_bare lock (Some seat) now loader alone none own = absurd (cc)
seated_bare lock None now (Some loader) alone none own = absurd (cc)

pub hosts_new : (arenas : Hosted) (one : Option SeatState) (now : HeldState) (loader : Option LoaderView)
    → one ≡ None → loader ≡ None → ServesArenas now.seat.knows (shown arenas)
    → HostsArenas (Some arenas) one (Some now) loader
hosts_new arenas None now None alone none its = its
hosts_new arenas (Some seat) now loader alone none its = absurd (cc)
hosts_new arenas None now (Some loader) alone none its = absurd (cc)

-- So it is of a member whose arenas were opened over the pool that its seat has.
pub hosts_made : (lock : LockState) (one : Option SeatState) (some : Option HeldState) (held now : HeldState)
    (loader : Option LoaderView) (arenas : Hosted) (before : Option Hosted) (X : Type 0) → some ≡ Some held
    → loader ≡ None → now.seat.id ≡ held.seat.id → ServesArenas now.seat.knows (shown arenas)
    → IsSeated lock one some loader × HostsArenas before one some loader × X
    → IsSeated lock one (Some now) loader × HostsArenas (Some arenas) one (Some now) loader × X
hosts_made lock one some held now loader arenas before X is none own serves its =
    let had = has_it lock one some held loader is its.0 in (
      seated_bare lock one now loader had.alone none (own ∙ had.own),
      hosts_new arenas one now loader had.alone none serves,
      its.2,
    )

-- Beside a loader there are no arenas.
pub no_arenas : (arenas : Option Hosted) (one : Option SeatState) (held : Option HeldState)
    (some : Option LoaderView) (loader : LoaderView) → some ≡ Some loader → HostsArenas arenas one held some
    → arenas ≡ None
no_arenas None one held some loader is its = refl
no_arenas (Some arenas) (Some seat) None None loader is its = absurd (cc)
no_arenas (Some arenas) None (Some held) None loader is its = absurd (cc)
no_arenas (Some arenas) (Some seat) None (Some other) loader is its = absurd its
no_arenas (Some arenas) None (Some held) (Some other) loader is its = absurd its
no_arenas (Some arenas) (Some seat) (Some held) some loader is its = absurd its
no_arenas (Some arenas) None None some loader is its = absurd its
