-- Nodes without a chunk purged: the ledger stays sound, and all accounts are served still.
use Rattle.std.proofs.Common.{List, length, refl, ap, arith}
use Rattle.std.specs.List.{filter}
use Rattle.ms_base.specs.declared.kind.Space.{Space}
use Rattle.ms_base.specs.declared.kind.Space.TheVariants.{NonClass, Class}
use Rattle.ms_base.specs.declared.span.Chunk.{Chunk}
use Rattle.ms_base.specs.Policy.{granule_of}
use Rattle.ms_base.specs.Committed.{is_committed_now}
use Rattle.ms_base.specs.Held.{has_chunk_in}
use Rattle.ms_base.proofs.granules.CommittedLemmas.{fewer_slots}
use Rattle.ms_base.proofs.machine.GoodLemmas.{IsSoundBut, kept_is_sound, sound_but}
use Rattle.ms_pool.specs.Account.{AccountState}
use Rattle.ms_pool.specs.Ledger.{Ledger, IsSoundLedger, Serves, purged, state_in}
use Rattle.ms_pool.proofs.ledger.LoanLemmas.{chunks_in}
use Rattle.ms_pool.proofs.ledger.SoundLemmas.{ledger_is_sound}

pub purged_is_sound : (old : Ledger) → IsSoundLedger old → IsSoundLedger (purged old)
purged_is_sound old sound = ledger_is_sound old rest sound refl
    (record { order = sound.order; owners = sound.owners; given = sound.given; opened = sound.opened }) rest_is_sound
    (omega (
      arith,
      (sound.spaces NonClass).granules,
      fewer_slots (is_committed_now old.limits.policy old.committed held) (granule_of old.limits.policy)
          (has_chunk_in held) old.slots,
      ap length (sound.spaces NonClass).committed,
      ap length (sound.spaces Class).committed,
    ))
  where
    held : List Chunk
    held = chunks_in NonClass old.loans

    rest : Ledger
    rest = record old { slots = filter (has_chunk_in held) old.slots }

    rest_is_sound : (space : Space) → IsSoundBut (state_in space rest)
    rest_is_sound NonClass = kept_is_sound (state_in NonClass old) (sound.spaces NonClass)
    rest_is_sound Class = sound_but (state_in Class old) (sound.spaces Class)

pub purged_serves : (old : Ledger) (account : AccountState) → Serves old account → Serves (purged old) account
purged_serves old account served = record { some = served.some; given = served.given; chunks = served.chunks }
