mod ProgramEnd
