use Rattle.std.proofs.Common.{◌≡◌, ◌<◌, length, get_or, string_bytes, sym, ap, ◌∙◌, rules}
use Rattle.std.proofs.lemmas.List.{get_or_read}
use Rattle.std.specs.List.{AllWithin}
use Rattle.remap_io.specs.Folder.{with_file}
use Rattle.remap_io.specs.Store.{folder_of}
use Rattle.remap_io.proofs.Folders.{named_otherwise, same_text, folder-set, folder-push}
use Rattle.remap_io.proofs.store.hold.Goals as goal

pub returns-then-eq-clause-ok : goal.returns-then-eq-clause-ok
returns-then-eq-clause-ok c =
    let files = c.loop-i.files.items in
    let name = c.args.name.now in
    let read = c.index.result.now in
    let written = c.index_mut.result.now in
    let in_range : c.loop-i.i < length files = search rules in
    let text : string_bytes read.name ≡ name = sym c.as_str.ensures.value ∙ same_text c.as_str.result.now name c.eq.result c.eq.ensures c.if-eq.true in
    let here : string_bytes (get_or files c.loop-i.i written).name ≡ name = ap (λ f. string_bytes f.name) (sym (get_or_read files c.loop-i.i read in_range c.index.ensures written)) ∙ text in
    let same : string_bytes written.name ≡ name = ap (λ f. string_bytes f.name) c.index_mut.ensures.value ∙ here in
    folder-set name files c.loop-i.i (record { name = written.name; bytes = c.args.bytes }) written in_range c.loop-i.invariant.others here same
    ∙ ap (λ fs. with_file (folder_of fs) name c.args.bytes.items) c.loop-i.invariant.same

pub returns-clause-ok : goal.returns-clause-ok
returns-clause-ok c =
    let files = c.loop-i.files.items in
    let name = c.args.name.now in
    let others : AllWithin (named_otherwise name) files 0 (length files) = λ k d low high. c.loop-i.invariant.others k d low (search rules) in
    ap folder_of c.in_ok-push.ensures.items
    ∙ folder-push name files (record { name = c.in_ok-name.name; bytes = c.args.bytes }) others c.in_ok-name.ensures.ok
    ∙ ap (λ fs. with_file (folder_of fs) name c.args.bytes.items) c.loop-i.invariant.same
