pub mod PcfLaws
