use Rattle.tempest_top.proofs.top.run.Goals as goal

pub returns : goal.returns
returns g c =
    let kept = c.run_words.ensures.kept in
    record {
      status = kept.answer;
      done_folder = kept.done_folder;
      done_text = kept.done_text;
      done_line = c.run_words.ensures.no_line;
      refused_folder = kept.refused_folder;
      refused_text = kept.refused_text;
      text_after_file = kept.text_after_file;
      fault_after_file = kept.fault_after_file;
      refused_line = kept.refused_line;
      usage = kept.usage;
      usage_only = kept.usage_only;
      no_file = kept.no_file;
      no_reads = kept.no_reads;
      bytes_read = kept.bytes_read;
      no_bytes = kept.no_bytes;
    }
