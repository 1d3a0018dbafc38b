use Rattle.std.proofs.Common.{codes, map, ◌++◌}
use Rattle.std.specs.Prelude.{string_bytes}
use Rattle.ms_pool.specs.Mapping.{map_in}
use Rattle.ms_report.specs.Map.{all_cells, key_lines, map_lines}
use Rattle.ms_report.proofs.TextLemmas.{adds_text, adds_two}
use Rattle.ms_report.proofs.maps.push_maps.Goals as goal

pub returns : goal.returns
returns c =
    let old = string_bytes c.args.text.now in
    let titles = codes "Map\n" ++ codes "   slot  root  places of 8192 words\n" in
    let lines = map_lines (map map_in c.args.maps.now) in
    adds_text c.push_str-2.result old _ _ (titles ++ lines) (key_lines all_cells)
    (adds_two old _ _ titles lines c.in_ok-push_str.ensures.bytes c.in_ok-push_lines.ensures)
    c.push_str-2.ensures.bytes
