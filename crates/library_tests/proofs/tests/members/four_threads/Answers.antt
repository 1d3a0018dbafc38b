use denote.Param.Send.{sendable}
use Rattle.std.proofs.Crossing.{crosses}
use Rattle.ms_member.proofs.SendLemmas.{member_send}
use Rattle.library_tests.proofs.tests.members.four_threads.Goals as goal

pub map_vec-requires-send-J : goal.map_vec-requires-send-J
map_vec-requires-send-J g c κs within = search (member_send, sendable, crosses) depth 60 fits 30000
